-- In a lowered netlist input and output nodes are of the module's signals, register and memory outputs of its registers and memories,
-- and ports of its signals. Assumes nothing.
use Rattle.std.specs.Prelude.{◌≡◌, Bool, false, ◌||◌, eqb, length, get_or}
use Rattle.std.proofs.Math.Path.{refl}
use Rattle.std.proofs.Common.{true≢false, arith}
use mathlib.Core.List.{List, [], ◌∷◌, ◌++◌}
use Rattle.std.proofs.Math.Option.{Option, none, some}
use Prim.Native.Nat.{ℕ, zero, suc, ◌+◌, ◌<◌}
use Rattle.std.proofs.lemmas.Bool.{eqb-false}
use Rattle.spec_rtl.specs.Rtl as R
use Rattle.spec_rtl.specs.Rtl.{Module, Sig, Dir, Register, Port, Memory, Reset}
use Rattle.spec_model.specs.Words.{absent, Node, node, source, Netlist, bit_word, arithmetic_key, comparison_key}
use Rattle.spec_model.specs.Builder.{Out, done, Made, constant_value, add_nodes, add_input_port, add_output_port, push}
use Rattle.spec_model.specs.Lowering.{State, set_signal, signal_width, signal_nets, whole_net, signal_steps, memory_steps, register_steps, lower_all, start, reserve, reserve_input, reserve_inputs, reserve_bits, reserve_registers, reserve_second, reserve_memories, reserve_sources, net_control, push_record, ports_words, connect_memories, push_register, reset_by, register_bit, register_bits, connect_registers, connect_output, connect_outputs, lower_state}
use Rattle.law_owners.specs.Ends.{All, all_last, ends_done, ends_refused, ends_then}
use Rattle.law_owners.specs.Kept.{Adds, Puts, Closed, Leaves, nodes_kept, push_kept, input_kept, output_kept}
use Rattle.law_owners.specs.Walked.{Walked, all_walked}

-- kinds that are printed with a name: input, register output, output, memory output
abbrev pub named : ℕ → Bool
named k = eqb k 0 || eqb k 7 || eqb k 8 || eqb k 9

-- all nodes have Q, all records T
pub record Throughout (Q : Node → Type 0) (T : List ℕ → Type 0) (l : Netlist) : Type 0 where
  pub nodes : All Q l.nodes
  pub records : All T l.records

pub record Owned (m : Module) (x : Node) : Type 0 where
  pub input : x.kind ≡ 0 → x.owner < length m.signals
  pub output : x.kind ≡ 8 → x.owner < length m.signals
  pub register : x.kind ≡ 7 → x.owner < length m.registers
  pub memory : x.kind ≡ 9 → x.owner < length m.memories

abbrev pub OfSignal : Module → List ℕ → Type 0
OfSignal m r = get_or r 0 0 ≡ 0 → get_or r 1 0 < length m.signals

module _ (m : Module) where
  free : (x : Node) → named x.kind ≡ false → Owned m x
  free x h = record {
    input = λ e. absurd (true≢false (rw e at h));
    output = λ e. absurd (true≢false (rw e at h));
    register = λ e. absurd (true≢false (rw e at h));
    memory = λ e. absurd (true≢false (rw e at h));
  }

  other : (r : List ℕ) → eqb (get_or r 0 0) 0 ≡ false → OfSignal m r
  other r h e = absurd (eqb-false (get_or r 0 0) 0 h e)

  abbrev Whose : Netlist → Type 0
  Whose l = Throughout (Owned m) (OfSignal m) l

  adds : (x : Node) → Owned m x → Adds Whose x
  adds x q l h = record { nodes = (q, h.nodes); records = h.records }

  puts : (r : List ℕ) → OfSignal m r → Puts Whose r
  puts r t l h = record { nodes = h.nodes; records = all_last (OfSignal m) l.records r h.records t }

  abbrev Every : List ℕ → Type 0
  Every xs = Unit {0}

  closed : Closed Whose Every
  closed = record {
    constant = λ v. adds _ (free _ refl);
    both = λ x y. adds _ (free _ refl);
    either = λ x y. adds _ (free _ refl);
    differ = λ x y. adds _ (free _ refl);
    inverse = λ x. adds _ (free _ refl);
    choice = λ x y z. adds _ (free _ refl);
    arithmetic = λ o xs s i b. adds _ (free _ refl);
    comparison = λ o. adds _ (free _ refl);
    arithmetic_cell = λ op xs ys c s ns. puts _ (other (arithmetic_key op xs ys c ++ ns) refl);
    comparison_cell = λ op xs ys s ns. puts _ (other (comparison_key op xs ys ++ ns) refl);
  }

  of_signal : (p : ℕ) → p < length m.signals → (ns : List ℕ) → OfSignal m (0 ∷ p ∷ ns)
  of_signal p l ns e = l

  input_owned : (p : ℕ) → p < length m.signals → (i : ℕ) → Owned m (source 0 p i)
  input_owned p l i = record { input = λ e. l; output = λ e. l; register = λ e. absurd (omega arith); memory = λ e. absurd (omega arith) }

  output_owned : (p : ℕ) → p < length m.signals → (b x : ℕ) → Owned m (node 8 p b x absent absent)
  output_owned p l b x = record { input = λ e. l; output = λ e. l; register = λ e. absurd (omega arith); memory = λ e. absurd (omega arith) }

  register_owned : (k : ℕ) → k < length m.registers → (i : ℕ) → Owned m (source 7 k i)
  register_owned k l i = record { input = λ e. absurd (omega arith); output = λ e. absurd (omega arith); register = λ e. l; memory = λ e. absurd (omega arith) }

  memory_owned : (k : ℕ) → k < length m.memories → (i : ℕ) → Owned m (source 9 k i)
  memory_owned k l i = record { input = λ e. absurd (omega arith); output = λ e. absurd (omega arith); register = λ e. absurd (omega arith); memory = λ e. l }

  abbrev Good : State → Type 0
  Good st = Whose st.netlist

  abbrev Goes : Out State → Type 0
  Goes o = Walked Whose o

  -- ---- sources ----

  reserved : (st : State) (s : ℕ) (r : Made (List ℕ)) → Leaves Whose r → Goes (reserve st s r)
  unfolding set_signal
  reserved st s r k = ends_then r k (λ (ns, l) h. ends_done h)

  input_goes : (d : Dir) (s w : ℕ) (st : State) → s < length m.signals → Good st → Goes (reserve_input d s w st)
  input_goes R.Internal s w st l h = ends_done h
  input_goes R.Input s w st l h = reserved st s (add_input_port s w st.netlist) (input_kept Whose s w (λ i. adds _ (input_owned s l i)) (λ ns. puts _ (of_signal s l ns)) st.netlist h)
  input_goes R.Output s w st l h = ends_done h

  inputs_go : (s : ℕ) (xs : List Sig) (st : State) → s + length xs ≡ length m.signals → Good st → Goes (reserve_inputs s xs st)
  unfolding reserve_inputs
  inputs_go s [] st e h = ends_done h
  inputs_go s (x ∷ xs) st e h =
      ends_then (reserve_input x.dir s x.width st) (input_goes x.dir s x.width st (omega arith) h) (λ st₁ k. inputs_go (suc s) xs st₁ (omega arith) k)

  bits_go : (kind owner b s : ℕ) (st : State) → ((i : ℕ) → Owned m (source kind owner i)) → Good st → Goes (reserve_bits m kind owner b s st)
  bits_go kind owner b s st q h =
      reserved st s (add_nodes (source kind owner) b (signal_width m s) st.netlist) (nodes_kept Whose (source kind owner) b (signal_width m s) (λ i k. adds _ (q i)) st.netlist h)

  registers_go : (k : ℕ) (rs : List Register) (st : State) → k + length rs ≡ length m.registers → Good st → Goes (reserve_registers m k rs st)
  unfolding reserve_registers
  registers_go k [] st e h = ends_done h
  registers_go k (r ∷ rs) st e h =
      ends_then (reserve_bits m 7 k 0 r.target st) (bits_go 7 k 0 r.target st (register_owned k (omega arith)) h) (λ st₁ i. registers_go (suc k) rs st₁ (omega arith) i)

  second_goes : (k b : ℕ) (p : Option Port) (st : State) → k < length m.memories → Good st → Goes (reserve_second m k b p st)
  second_goes k b none st l h = ends_done h
  second_goes k b (some p) st l h = bits_go 9 k b p.read_data st (memory_owned k l) h

  memories_go : (k : ℕ) (xs : List Memory) (st : State) → k + length xs ≡ length m.memories → Good st → Goes (reserve_memories m k xs st)
  unfolding reserve_memories
  memories_go k [] st e h = ends_done h
  memories_go k (x ∷ xs) st e h =
      ends_then (reserve_bits m 9 k 0 x.first.read_data st) (bits_go 9 k 0 x.first.read_data st (memory_owned k (omega arith)) h) (λ st₁ i.
      ends_then (reserve_second m k (signal_width m x.first.read_data) x.second st₁) (second_goes k (signal_width m x.first.read_data) x.second st₁ (omega arith) i)
      (λ st₂ j. memories_go (suc k) xs st₂ (omega arith) j))

  sources_go : (st : State) → Good st → Goes (reserve_sources m st)
  unfolding reserve_sources
  sources_go st h =
      ends_then (reserve_inputs 0 m.signals st) (inputs_go 0 m.signals st (omega arith) h) (λ st₁ i.
      ends_then (reserve_registers m 0 m.registers st₁) (registers_go 0 m.registers st₁ (omega arith) i) (λ st₂ j. memories_go 0 m.memories st₂ (omega arith) j))

  -- ---- records ----

  pushed : (r : List ℕ) (st : State) → eqb (get_or r 0 0) 0 ≡ false → Good st → Goes (push_record r st)
  pushed r st e h = ends_then (push r st.netlist) (push_kept Whose r (puts r (other r e)) st.netlist h) (λ l k. ends_done k)

  connect_memories_law : (ob : Bool) (k : ℕ) (xs : List Memory) (st : State) → Good st → Goes (connect_memories m ob k xs st)
  unfolding connect_memories
  connect_memories_law ob k [] st h = ends_done h
  connect_memories_law ob k (x ∷ xs) st h =
      ends_then (lower_all m ob (memory_steps x) st) (all_walked Whose Every closed (λ xs. tt) m ob (memory_steps x) st h) (λ st₁ i.
      ends_then (push_record (2 ∷ k ∷ x.depth ∷ x.style ∷ 1 ∷ ports_words m st₁ x.first x.second) st₁) (pushed _ st₁ refl i) (λ st₂ j. connect_memories_law ob (suc k) xs st₂ j))

  register_pushed : (k : ℕ) (r : Register) (b : ℕ) (st : State) (o : Option Reset) → Good st → Goes (push_register k r b st o)
  register_pushed k r b st o h = pushed _ st refl h

  reset_pushed : (o : Option Bool) (k : ℕ) (r : Register) (b : ℕ) (st : State) (x : Reset) → Good st → Goes (reset_by o k r b st x)
  reset_pushed none k r b st x h = ends_refused
  reset_pushed (some v) k r b st x h =
      register_pushed k r b st (some (record { control = net_control st x.control; asynchronous = x.asynchronous; value = bit_word v })) h

  bit_pushed : (o : Option Reset) (k : ℕ) (r : Register) (b : ℕ) (st : State) → Good st → Goes (register_bit o k r b st)
  bit_pushed none k r b st h = register_pushed k r b st none h
  bit_pushed (some x) k r b st h = reset_pushed (constant_value st.netlist (whole_net st x.value b)) k r b st x h

  bits_pushed : (k : ℕ) (r : Register) (b w : ℕ) (st : State) → Good st → Goes (register_bits k r b w st)
  unfolding register_bits
  bits_pushed k r b zero st h = ends_done h
  bits_pushed k r b (suc w) st h = ends_then (register_bit r.reset k r b st) (bit_pushed r.reset k r b st h) (λ st₁ i. bits_pushed k r (suc b) w st₁ i)

  connect_registers_law : (ob : Bool) (k : ℕ) (rs : List Register) (st : State) → Good st → Goes (connect_registers m ob k rs st)
  unfolding connect_registers
  connect_registers_law ob k [] st h = ends_done h
  connect_registers_law ob k (r ∷ rs) st h =
      ends_then (lower_all m ob (register_steps r) st) (all_walked Whose Every closed (λ xs. tt) m ob (register_steps r) st h) (λ st₁ i.
      ends_then (register_bits k r 0 (signal_width m r.target) st₁) (bits_pushed k r 0 (signal_width m r.target) st₁ i) (λ st₂ j. connect_registers_law ob (suc k) rs st₂ j))

  connect_output_law : (ob : Bool) (d : Dir) (s w : ℕ) (st : State) → s < length m.signals → Good st → Goes (connect_output m ob d s w st)
  connect_output_law ob R.Internal s w st l h = ends_done h
  connect_output_law ob R.Input s w st l h = ends_done h
  connect_output_law ob R.Output s w st l h =
      ends_then (lower_all m ob (signal_steps s 0 w) st) (all_walked Whose Every closed (λ xs. tt) m ob (signal_steps s 0 w) st h) (λ st₁ i.
      ends_then (add_output_port s (signal_nets st₁ s 0 w) st₁.netlist)
      (output_kept Whose s (signal_nets st₁ s 0 w) (λ b x. adds _ (output_owned s l b x)) (λ ns. puts _ (of_signal s l ns)) st₁.netlist i) (λ (ns, n) j. ends_done j))

  connect_outputs_law : (ob : Bool) (s : ℕ) (xs : List Sig) (st : State) → s + length xs ≡ length m.signals → Good st → Goes (connect_outputs m ob s xs st)
  unfolding connect_outputs
  connect_outputs_law ob s [] st e h = ends_done h
  connect_outputs_law ob s (x ∷ xs) st e h =
      ends_then (connect_output m ob x.dir s x.width st) (connect_output_law ob x.dir s x.width st (omega arith) h) (λ st₁ k. connect_outputs_law ob (suc s) xs st₁ (omega arith) k)

  -- ---- the whole ----

  lowered : (ob : Bool) (N P : ℕ) → Goes (lower_state ob m N P)
  unfolding lower_state start
  lowered ob N P =
      ends_then (reserve_sources m (start m N P)) (sources_go (start m N P) (record { nodes = tt; records = tt })) (λ st₁ a.
      ends_then (connect_memories m ob 0 m.memories st₁) (connect_memories_law ob 0 m.memories st₁ a) (λ st₂ b.
      ends_then (connect_registers m ob 0 m.registers st₂) (connect_registers_law ob 0 m.registers st₂ b) (λ st₃ c. connect_outputs_law ob 0 m.signals st₃ (omega arith) c)))

  pub owners : (ob : Bool) (N P : ℕ) (st : State) → lower_state ob m N P ≡ done st → Throughout (Owned m) (OfSignal m) st.netlist
  owners ob N P st e = (rw e at (lowered ob N P)).ends
