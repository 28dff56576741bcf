-- What is proved of specs/Phases: What each phase of the lowering, and the whole of it, comes to under limits. Assumes nothing.
use Rattle.std.specs.Prelude.{◌≡◌, Bool}
use Rattle.std.proofs.Math.Path.{ap}
use Rattle.std.proofs.Common.{sym, arith}
use mathlib.Core.List.{List, [], ◌∷◌, ◌++◌}
use Rattle.std.proofs.Math.Option.{Option, none, some}
use Prim.Native.Nat.{ℕ, zero, suc}
use Rattle.spec_rtl.specs.Rtl as R
use Rattle.spec_rtl.specs.Rtl.{Module, Sig, Dir, Reset, Register, Port, Memory}
use Rattle.spec_model.specs.Words.{source, bit_word, low_word, control_words, reset_words, used}
use Rattle.spec_model.specs.Builder.{Out, done, and_then, Made, node_for_net, constant_value, add_nodes, add_input_port, add_output_port, push}
use Rattle.spec_model.specs.Lowering.{State, with_netlist, set_signal, signal_width, signal_bit, signal_net, signal_nets, whole, whole_nets, whole_net, signal_steps, memory_steps, register_steps, lower_all, start, reserve, reserve_input, reserve_inputs, reserve_bits, reserve_registers, reserve_second, reserve_memories, reserve_sources, net_control, option_control, push_record, ports_words, connect_memories, push_register, reset_by, register_bit, register_bits, connect_registers, connect_output, connect_outputs, lower_state, lower_with}
use Rattle.spec_answers.specs.Limits.{limited}
use Rattle.law_limits.specs.Bounds.{lists, made, limited_state, states}
use Rattle.law_limits.proofs.Bounds.{Bounds, bounds_done, bounds_refused, bounds_as, bounds_then}
use Rattle.law_limits.proofs.Built.{push_bounds, builds_nodes, builds_input, builds_output}
use Rattle.law_limits.proofs.Walked.{Goes, Walks, Makes, walks_done, walks_then, all_walks}
use Rattle.law_limits.specs.Phases.{control_alike, ports_alike}

-- ---- sources ----

reserve_walks : (s : ℕ) (f : State → Made (List ℕ)) → Makes f → Walks (λ st. reserve st s (f st))
unfolding set_signal
reserve_walks s f b st =
    bounds_then (made (List ℕ)) states (λ N P. f (limited_state N P st)) (λ (ns, l). done (set_signal (with_netlist st l) s ns)) (b st)
    (λ r. bounds_done states (set_signal (with_netlist st r.1) s r.0))

input_walks : (d : Dir) (s w : ℕ) → Walks (reserve_input d s w)
input_walks R.Internal s w st = walks_done st
input_walks R.Input s w st = reserve_walks s (λ st₁. add_input_port s w st₁.netlist) (λ st₁. builds_input s w st₁.netlist) st
input_walks R.Output s w st = walks_done st

pub inputs_walk : (s : ℕ) (xs : List Sig) → Walks (reserve_inputs s xs)
unfolding reserve_inputs
inputs_walk s [] st = walks_done st
inputs_walk s (x ∷ xs) st = walks_then (reserve_input x.dir s x.width) (reserve_inputs (suc s) xs) (input_walks x.dir s x.width) (inputs_walk (suc s) xs) st

module _ (m : Module) where
  bits_walk : (kind owner b s : ℕ) → Walks (reserve_bits m kind owner b s)
  bits_walk kind owner b s =
      reserve_walks s (λ st. add_nodes (source kind owner) b (signal_width m s) st.netlist) (λ st. builds_nodes (source kind owner) b (signal_width m s) st.netlist)

  pub registers_walk : (k : ℕ) (rs : List Register) → Walks (reserve_registers m k rs)
  unfolding reserve_registers
  registers_walk k [] st = walks_done st
  registers_walk k (r ∷ rs) st = walks_then (reserve_bits m 7 k 0 r.target) (reserve_registers m (suc k) rs) (bits_walk 7 k 0 r.target) (registers_walk (suc k) rs) st

  second_walks : (k b : ℕ) (p : Option Port) → Walks (reserve_second m k b p)
  second_walks k b none st = walks_done st
  second_walks k b (some p) st = bits_walk 9 k b p.read_data st

  pub memories_walk : (k : ℕ) (xs : List Memory) → Walks (reserve_memories m k xs)
  unfolding reserve_memories
  memories_walk k [] st = walks_done st
  memories_walk k (x ∷ xs) st =
      let w = signal_width m x.first.read_data in
      walks_then (reserve_bits m 9 k 0 x.first.read_data) (λ st₁. and_then (reserve_second m k w x.second st₁) (reserve_memories m (suc k) xs)) (bits_walk 9 k 0 x.first.read_data)
      (walks_then (reserve_second m k w x.second) (reserve_memories m (suc k) xs) (second_walks k w x.second) (memories_walk (suc k) xs)) st

  pub sources_walk : Walks (reserve_sources m)
  unfolding reserve_sources
  sources_walk =
      walks_then (reserve_inputs 0 m.signals) (λ st₁. and_then (reserve_registers m 0 m.registers st₁) (reserve_memories m 0 m.memories)) (inputs_walk 0 m.signals)
      (walks_then (reserve_registers m 0 m.registers) (reserve_memories m 0 m.memories) (registers_walk 0 m.registers) (memories_walk 0 m.memories))

pushed_walks : (r : List ℕ) → Walks (push_record r)
pushed_walks r st = bounds_then lists states (λ N P. push r (limited N P st.netlist)) (λ l. done (with_netlist st l)) (push_bounds r st.netlist) (λ l. bounds_done states (with_netlist st l))

-- a record of what is read
record_walks : (f : State → List ℕ) → ((N P : ℕ) (st : State) → f (limited_state N P st) ≡ f st) → Walks (λ st. push_record (f st) st)
record_walks f e st = bounds_as states (pushed_walks (f st) st) (λ N P. ap (λ r. push_record r (limited_state N P st)) (sym (e N P st)))

register_walks : (k : ℕ) (r : Register) (b : ℕ) (st : State) (o : Option Reset) → Goes st (λ N P. push_register k r b (limited_state N P st) o)
unfolding signal_net signal_bit whole_net whole_nets whole
register_walks k r b st o =
    record_walks (λ st₁. 1 ∷ k ∷ b ∷ signal_net st₁ r.target b ∷ whole_net st₁ r.next b ∷ signal_net st₁ r.clock 0 ∷ low_word r.rising ∷
    control_words (option_control st₁ r.enable) ++ reset_words o) (λ N P st₁. rw (control_alike N P st₁ r.enable)) st

reset_walks : (o : Option Bool) (k : ℕ) (r : Register) (b : ℕ) (x : Reset) → Walks (λ st. reset_by o k r b st x)
unfolding signal_net signal_bit
reset_walks none k r b x st = bounds_refused states _ _ 8 k b (λ e. absurd (omega arith)) (λ e. absurd (omega arith))
reset_walks (some v) k r b x st = register_walks k r b st (some (record { control = net_control st x.control; asynchronous = x.asynchronous; value = bit_word v }))

bit_walks : (o : Option Reset) (k : ℕ) (r : Register) (b : ℕ) → Walks (register_bit o k r b)
unfolding whole_net whole_nets whole constant_value node_for_net
bit_walks none k r b st = register_walks k r b st none
bit_walks (some x) k r b st = reset_walks (constant_value st.netlist (whole_net st x.value b)) k r b x st

pub register_bits_walk : (k : ℕ) (r : Register) (b w : ℕ) → Walks (register_bits k r b w)
unfolding register_bits
register_bits_walk k r b zero st = walks_done st
register_bits_walk k r b (suc w) st = walks_then (register_bit r.reset k r b) (register_bits k r (suc b) w) (bit_walks r.reset k r b) (register_bits_walk k r (suc b) w) st

module _ (m : Module) (ob : Bool) where
  pub connect_memories_walk : (k : ℕ) (xs : List Memory) → Walks (connect_memories m ob k xs)
  unfolding connect_memories
  connect_memories_walk k [] st = walks_done st
  connect_memories_walk k (x ∷ xs) st =
      let words : State → List ℕ = λ st₁. 2 ∷ k ∷ x.depth ∷ x.style ∷ 1 ∷ ports_words m st₁ x.first x.second in
      walks_then (lower_all m ob (memory_steps x)) (λ st₁. and_then (push_record (words st₁) st₁) (connect_memories m ob (suc k) xs)) (all_walks m ob (memory_steps x))
      (walks_then (λ st₁. push_record (words st₁) st₁) (connect_memories m ob (suc k) xs)
      (record_walks words (λ N P st₁. ap (λ ws. 2 ∷ k ∷ x.depth ∷ x.style ∷ 1 ∷ ws) (ports_alike N P st₁ m x.first x.second))) (connect_memories_walk (suc k) xs)) st

  pub connect_registers_walk : (k : ℕ) (rs : List Register) → Walks (connect_registers m ob k rs)
  unfolding connect_registers
  connect_registers_walk k [] st = walks_done st
  connect_registers_walk k (r ∷ rs) st =
      let w = signal_width m r.target in
      walks_then (lower_all m ob (register_steps r)) (λ st₁. and_then (register_bits k r 0 w st₁) (connect_registers m ob (suc k) rs)) (all_walks m ob (register_steps r))
      (walks_then (register_bits k r 0 w) (connect_registers m ob (suc k) rs) (register_bits_walk k r 0 w) (connect_registers_walk (suc k) rs)) st

  port_walks : (s w : ℕ) → Walks (λ st. and_then (add_output_port s (signal_nets st s 0 w) st.netlist) (λ (ns, l). done (with_netlist st l)))
  unfolding signal_nets signal_net signal_bit
  port_walks s w st =
      bounds_then (made (List ℕ)) states (λ N P. add_output_port s (signal_nets st s 0 w) (limited N P st.netlist)) (λ (ns, l). done (with_netlist st l))
      (builds_output s (signal_nets st s 0 w) st.netlist) (λ r. bounds_done states (with_netlist st r.1))

  output_walks : (d : Dir) (s w : ℕ) → Walks (connect_output m ob d s w)
  output_walks R.Internal s w st = walks_done st
  output_walks R.Input s w st = walks_done st
  output_walks R.Output s w st =
      walks_then (lower_all m ob (signal_steps s 0 w)) (λ st₁. and_then (add_output_port s (signal_nets st₁ s 0 w) st₁.netlist) (λ (ns, l). done (with_netlist st₁ l)))
      (all_walks m ob (signal_steps s 0 w)) (port_walks s w) st

  pub connect_outputs_walk : (s : ℕ) (xs : List Sig) → Walks (connect_outputs m ob s xs)
  unfolding connect_outputs
  connect_outputs_walk s [] st = walks_done st
  connect_outputs_walk s (x ∷ xs) st = walks_then (connect_output m ob x.dir s x.width) (connect_outputs m ob (suc s) xs) (output_walks x.dir s x.width) (connect_outputs_walk (suc s) xs) st

-- ---- the whole ----

-- whatever is done from the start on
pub from_start : (m : Module) (f : State → Out State) → Walks f → Bounds states 0 0 (λ N P. f (start m N P))
unfolding start used
from_start m f w = w (start m 0 0)

module _ (ob : Bool) (m : Module) where
  pub limits : Bounds states 0 0 (λ N P. lower_state ob m N P)
  unfolding lower_state
  limits =
      from_start m
      (λ st. and_then (reserve_sources m st) (λ st₁. and_then (connect_memories m ob 0 m.memories st₁) (λ st₂. and_then (connect_registers m ob 0 m.registers st₂) (connect_outputs m ob 0 m.signals))))
      (walks_then (reserve_sources m) (λ st₁. and_then (connect_memories m ob 0 m.memories st₁) (λ st₂. and_then (connect_registers m ob 0 m.registers st₂) (connect_outputs m ob 0 m.signals)))
      (sources_walk m)
      (walks_then (connect_memories m ob 0 m.memories) (λ st₂. and_then (connect_registers m ob 0 m.registers st₂) (connect_outputs m ob 0 m.signals)) (connect_memories_walk m ob 0 m.memories)
      (walks_then (connect_registers m ob 0 m.registers) (connect_outputs m ob 0 m.signals) (connect_registers_walk m ob 0 m.registers) (connect_outputs_walk m ob 0 m.signals))))

  pub netlist_limits : Bounds lists 0 0 (λ N P. lower_with ob m N P)
  unfolding lower_with
  netlist_limits = bounds_then states lists (λ N P. lower_state ob m N P) (λ st. done st.netlist) limits (λ st. bounds_done lists st.netlist)
