-- What is proved of specs/Spent: The lowering never refuses for want of fuel, with either flag: each phase keeps the marks' shape, and its calls of the builder refuse for want of room.
-- Assumes nothing.
use Rattle.std.specs.Prelude.{◌≡◌, refl, Bool}
use Rattle.std.proofs.Common.{subst, arith}
use mathlib.Core.List.{List, [], ◌∷◌}
use Rattle.std.proofs.Math.Option.{Option, none, some}
use Prim.Native.Nat.{ℕ, zero, suc}
use Rattle.std.proofs.Math.ListN.{get_elem?}
use Rattle.spec_rtl.specs.Rtl as R
use Rattle.spec_rtl.specs.Rtl.{Module, Sig, Dir, Register, Reset, Port, Memory}
use Rattle.spec_model.specs.Words.{absent, source}
use Rattle.spec_model.specs.Builder.{Out, refused, Made, push, constant_value, add_nodes, add_input_port, add_output_port}
use Rattle.spec_model.specs.Lowering.{State, Step, set_signal, signal_width, signal_nets, whole_net, signal_steps, memory_steps, register_steps, ports_words, sum_widths, lower_all, start, reserve, reserve_input, reserve_inputs, reserve_bits, reserve_registers, reserve_second, reserve_memories, reserve_sources, push_record, connect_memories, reset_by, register_bit, register_bits, connect_registers, connect_output, connect_outputs, lower_state}
use Rattle.law_nets.specs.Run.{Meets}
use Rattle.law_walk.specs.Good.{Good}
use Rattle.law_walk.specs.Reads.{AllAsked}
use Rattle.law_walk.specs.Walk.{bits_asked}
use Rattle.law_needs.specs.Room.{Roomy, push_room, nodes_room, output_room}
use Rattle.law_phases.specs.Memories as memories
use Rattle.law_phases.specs.Registers as registers
use Rattle.law_fuel.specs.Marks.{Under, start_under}
use Rattle.law_fuel.specs.Walked.{Fed, Goes, goes_done, goes_bind, goes_room}
use Rattle.law_fuel.proofs.Walked.{all_goes}
use Rattle.law_fuel.specs.Spent.{input_room}

module _ (m : Module) where
  -- no more bits are unmarked than there are
  abbrev Going : Out State → Type 0
  Going o = Goes m (sum_widths m.signals) o

  abbrev Here : State → Type 0
  Here st = Under m (sum_widths m.signals) st

  -- ---- sources ----

  row_goes : (st : State) (s : ℕ) → Here st → (o : Made (List ℕ)) → Roomy o → Going (reserve st s o)
  unfolding set_signal
  row_goes st s i o r = goes_room o _ r (λ a. goes_done (record { marks = i.marks; few = i.few }))

  bits_goes : (kind owner b s : ℕ) (st : State) → Here st → Going (reserve_bits m kind owner b s st)
  bits_goes kind owner b s st i = row_goes st s i (add_nodes (source kind owner) b (signal_width m s) st.netlist) (nodes_room (source kind owner) b (signal_width m s) st.netlist)

  input_goes : (d : Dir) (s w : ℕ) (st : State) → Here st → Going (reserve_input d s w st)
  input_goes R.Internal s w st i = goes_done i
  input_goes R.Input s w st i = row_goes st s i (add_input_port s w st.netlist) (input_room s w st.netlist)
  input_goes R.Output s w st i = goes_done i

  inputs_goes : (s : ℕ) (xs : List Sig) (st : State) → Here st → Going (reserve_inputs s xs st)
  unfolding reserve_inputs
  inputs_goes s [] st i = goes_done i
  inputs_goes s (x ∷ xs) st i = goes_bind (reserve_input x.dir s x.width st) _ (input_goes x.dir s x.width st i) (λ st₁ i₁. inputs_goes (suc s) xs st₁ i₁)

  targets_goes : (k : ℕ) (rs : List Register) (st : State) → Here st → Going (reserve_registers m k rs st)
  unfolding reserve_registers
  targets_goes k [] st i = goes_done i
  targets_goes k (r ∷ rs) st i = goes_bind (reserve_bits m 7 k 0 r.target st) _ (bits_goes 7 k 0 r.target st i) (λ st₁ i₁. targets_goes (suc k) rs st₁ i₁)

  second_goes : (k b : ℕ) (o : Option Port) (st : State) → Here st → Going (reserve_second m k b o st)
  second_goes k b none st i = goes_done i
  second_goes k b (some p) st i = bits_goes 9 k b p.read_data st i

  data_goes : (k : ℕ) (xs : List Memory) (st : State) → Here st → Going (reserve_memories m k xs st)
  unfolding reserve_memories
  data_goes k [] st i = goes_done i
  data_goes k (x ∷ xs) st i =
      goes_bind (reserve_bits m 9 k 0 x.first.read_data st) _ (bits_goes 9 k 0 x.first.read_data st i) (λ st₁ i₁.
      goes_bind (reserve_second m k (signal_width m x.first.read_data) x.second st₁) _ (second_goes k (signal_width m x.first.read_data) x.second st₁ i₁)
      (λ st₂ i₂. data_goes (suc k) xs st₂ i₂))

  sources_goes : (st : State) → Here st → Going (reserve_sources m st)
  unfolding reserve_sources
  sources_goes st i =
      goes_bind (reserve_inputs 0 m.signals st) _ (inputs_goes 0 m.signals st i) (λ st₁ i₁.
      goes_bind (reserve_registers m 0 m.registers st₁) _ (targets_goes 0 m.registers st₁ i₁) (λ st₂ i₂. data_goes 0 m.memories st₂ i₂))

  -- ---- records ----

  push_goes : (r : List ℕ) (st : State) → Here st → Going (push_record r st)
  push_goes r st i = goes_room (push r st.netlist) _ (push_room r st.netlist) (λ l. goes_done (record { marks = i.marks; few = i.few }))

  reset_goes : (v : Option Bool) (k : ℕ) (r : Register) (b : ℕ) (st : State) (x : Reset) → Here st → Going (reset_by v k r b st x)
  reset_goes none k r b st x i = record { goes = λ e. omega arith }
  reset_goes (some v) k r b st x i = push_goes _ st i

  register_goes : (o : Option Reset) (k : ℕ) (r : Register) (b : ℕ) (st : State) → Here st → Going (register_bit o k r b st)
  register_goes none k r b st i = push_goes _ st i
  register_goes (some x) k r b st i = reset_goes (constant_value st.netlist (whole_net st x.value b)) k r b st x i

  register_bits_go : (k : ℕ) (r : Register) (b w : ℕ) (st : State) → Here st → Going (register_bits k r b w st)
  unfolding register_bits
  register_bits_go k r b zero st i = goes_done i
  register_bits_go k r b (suc w) st i = goes_bind (register_bit r.reset k r b st) _ (register_goes r.reset k r b st i) (λ st₁ i₁. register_bits_go k r (suc b) w st₁ i₁)

  module _ (good : Good m) (ob : Bool) where
    walk_goes : (ss : List Step) (st : State) → Here st → AllAsked m ss → Going (lower_all m ob ss st)
    walk_goes ss st i a = all_goes m good ob (sum_widths m.signals) (omega arith) ss st i a

    memories_go : (k : ℕ) (xs : List Memory) → ((j : ℕ) (x : Memory) → get_elem? xs j ≡ some x → AllAsked m (memory_steps x)) → (st : State) → Here st
        → Going (connect_memories m ob k xs st)
    unfolding connect_memories
    memories_go k [] a st i = goes_done i
    memories_go k (x ∷ xs) a st i =
        goes_bind (lower_all m ob (memory_steps x) st) _ (walk_goes (memory_steps x) st i (a 0 x refl)) (λ st₁ i₁.
        goes_bind (push_record (2 ∷ k ∷ x.depth ∷ x.style ∷ 1 ∷ ports_words m st₁ x.first x.second) st₁) _ (push_goes _ st₁ i₁)
        (λ st₂ i₂. memories_go (suc k) xs (λ j y e. a (suc j) y e) st₂ i₂))

    registers_go : (k : ℕ) (rs : List Register) → ((j : ℕ) (r : Register) → get_elem? rs j ≡ some r → AllAsked m (register_steps r)) → (st : State) → Here st
        → Going (connect_registers m ob k rs st)
    unfolding connect_registers
    registers_go k [] a st i = goes_done i
    registers_go k (r ∷ rs) a st i =
        goes_bind (lower_all m ob (register_steps r) st) _ (walk_goes (register_steps r) st i (a 0 r refl)) (λ st₁ i₁.
        goes_bind (register_bits k r 0 (signal_width m r.target) st₁) _ (register_bits_go k r 0 (signal_width m r.target) st₁ i₁)
        (λ st₂ i₂. registers_go (suc k) rs (λ j y e. a (suc j) y e) st₂ i₂))

    output_goes : (d : Dir) (s w : ℕ) (st : State) → Here st → Going (connect_output m ob d s w st)
    output_goes R.Internal s w st i = goes_done i
    output_goes R.Input s w st i = goes_done i
    output_goes R.Output s w st i =
        goes_bind (lower_all m ob (signal_steps s 0 w) st) _ (walk_goes (signal_steps s 0 w) st i (bits_asked m s 0 w)) (λ st₁ i₁.
        goes_room (add_output_port s (signal_nets st₁ s 0 w) st₁.netlist) _ (output_room s (signal_nets st₁ s 0 w) st₁.netlist)
        (λ r. goes_done (record { marks = i₁.marks; few = i₁.few })))

    outputs_go : (s : ℕ) (xs : List Sig) (st : State) → Here st → Going (connect_outputs m ob s xs st)
    unfolding connect_outputs
    outputs_go s [] st i = goes_done i
    outputs_go s (x ∷ xs) st i = goes_bind (connect_output m ob x.dir s x.width st) _ (output_goes x.dir s x.width st i) (λ st₁ i₁. outputs_go (suc s) xs st₁ i₁)

    state_goes : (n p : ℕ) → Going (lower_state ob m n p)
    unfolding lower_state
    state_goes n p =
        goes_bind (reserve_sources m (start m n p)) _ (sources_goes (start m n p) (start_under m n p)) (λ st₁ i₁.
        goes_bind (connect_memories m ob 0 m.memories st₁) _
        (memories_go 0 m.memories (λ j x e. let g = good.memories j x e in memories.steps_asked m x g.first g.second) st₁ i₁) (λ st₂ i₂.
        goes_bind (connect_registers m ob 0 m.registers st₂) _
        (registers_go 0 m.registers (λ j r e. registers.steps_asked m j r (good.registers j r e)) st₂ i₂) (λ st₃ i₃. outputs_go 0 m.signals st₃ i₃)))

-- no refusal has the number that stands for no fuel
pub never_spent : (m : Module) → Good m → (ob : Bool) (n p : ℕ) → (c x y : ℕ) → lower_state ob m n p ≡ refused c x y → c ≡ absent → ⊥
never_spent m good ob n p c x y e = subst (λ (o : Out State). Meets Fed (Under m (sum_widths m.signals)) o) e (state_goes m good ob n p).goes
