-- The port records of a lowered netlist are the module's input signals and then its output signals, both in signal order; an input node is
-- an input signal's, an output node an output signal's. Assumes nothing.
use Prim.Native.Nat.{ℕ, zero, suc, ◌+◌}
use Rattle.std.proofs.Common.{arith, sym, subst, ◌∙◌, true≢false, get_or-drop, drop-drop}
use Rattle.std.specs.Prelude.{◌≡◌, Bool, false, leb, drop, get_or}
use Rattle.std.proofs.Math.Path.{refl, ap}
use mathlib.Core.List.{List, [], ◌∷◌, ◌++◌, map, append_assoc, append-nil}
use Rattle.std.proofs.Math.Option.{Option, none, some}
use Rattle.std.proofs.Math.ListN.{length}
use Rattle.spec_rtl.specs.Rtl as R
use Rattle.spec_rtl.specs.Rtl.{Module, Sig, Dir, Register, Port, Memory, Reset, dir_of}
use Rattle.spec_tests.specs.Rules.{pick, only}
use Rattle.spec_rules.specs.Step.{is_output}
use Rattle.spec_model.specs.Words.{absent, Node, node, source, Netlist, bit_word, used, arithmetic_key, comparison_key}
use Rattle.spec_model.specs.Builder.{Out, done, Made, push, constant_value, add_node, both, from, add_nodes, add_recorded, add_input_port, add_output_port}
use Rattle.spec_model.specs.Lowering.{State, Step, set_signal, signal_width, signal_nets, whole_net, signal_steps, memory_steps, register_steps, lower_all, start, reserve, reserve_input, reserve_inputs, reserve_bits, reserve_registers, reserve_second, reserve_memories, reserve_sources, net_control, push_record, ports_words, connect_memories, push_register, reset_by, register_bit, register_bits, connect_registers, connect_output, connect_outputs, lower_state}
use Rattle.law_nets.specs.Meaning.{records_with}
use Rattle.law_nets.specs.Nodes.{with_new, with_same}
use Rattle.law_phases.specs.Pushed.{nets_length}
use Rattle.law_owners.specs.Ends.{All, ends_done, ends_refused, ends_then, ends_if}
use Rattle.law_owners.specs.Kept.{with_record, Adds, Puts, Closed, Leaves, node_kept, push_kept, nodes_kept, both_kept}
use Rattle.law_owners.specs.Walked.{Walked, all_walked}
use Rattle.law_owners.specs.Owners.{named}
use Rattle.law_trace.specs.Signals.{is_input, signals_from, inputs, outputs}

-- a port record's signal and width
abbrev pub port : List ℕ → ℕ × ℕ
port r = (get_or r 1 0, get_or r 2 0)

-- a node's signal has the node's direction
pub record Faces (m : Module) (x : Node) : Type 0 where
  pub input : x.kind ≡ 0 → dir_of m x.owner ≡ R.Input
  pub output : x.kind ≡ 8 → dir_of m x.owner ≡ R.Output

pub record Ordered (m : Module) (ps : List (ℕ × ℕ)) (l : Netlist) : Type 0 where
  pub ports : map port (records_with 0 l.records) ≡ ps
  pub nodes : All (Faces m) l.nodes

map_last : (rs : List (List ℕ)) (r : List ℕ) → map port (rs ++ (r ∷ [])) ≡ map port rs ++ (port r ∷ [])
map_last [] r = refl
map_last (x ∷ rs) r = ap (λ (z : List (ℕ × ℕ)). port x ∷ z) (map_last rs r)

module _ (m : Module) where
  -- the signals from number p on
  abbrev pub From : ℕ → List Sig → Type 0
  From p xs = drop p m.signals ≡ xs

  pub sig_at : (p : ℕ) (x : Sig) (xs : List Sig) → From p (x ∷ xs) → get_or m.signals p (record { width = 0; dir = R.Internal }) ≡ x
  sig_at p x xs e =
      let none : Sig = record { width = 0; dir = R.Internal } in
      let z : p + 0 ≡ p = omega arith in
      ap (λ (k : ℕ). get_or m.signals k none) (sym z) ∙ sym (get_or-drop p m.signals 0 none) ∙ ap (λ (ys : List Sig). get_or ys 0 none) e

  pub dir_at : (p : ℕ) (x : Sig) (xs : List Sig) → From p (x ∷ xs) → dir_of m p ≡ x.dir
  dir_at p x xs e = ap (λ (y : Sig). y.dir) (sig_at p x xs e)

  pub from_next : (p : ℕ) (x : Sig) (xs : List Sig) → From p (x ∷ xs) → From (suc p) xs
  from_next p x xs e = let z : suc p ≡ p + 1 = omega arith in ap (λ (k : ℕ). drop k m.signals) z ∙ sym (drop-drop 1 p m.signals) ∙ ap (drop 1) e

  -- ---- one node, one record more ----

  module _ (ps : List (ℕ × ℕ)) where
    abbrev K : Netlist → Type 0
    K l = Ordered m ps l

    adds : (x : Node) → Faces m x → Adds K x
    adds x q l h = record { ports = h.ports; nodes = (q, h.nodes) }

    puts : (r : List ℕ) → (get_or r 0 0 ≡ 0 → ⊥) → Puts K r
    puts r n l h = record { ports = ap (map port) (with_same 0 l.records r n) ∙ h.ports; nodes = h.nodes }

    abbrev Every : List ℕ → Type 0
    Every xs = Unit {0}

    -- a node of another kind
    other : (x : Node) → named x.kind ≡ false → Faces m x
    other x h = record { input = λ e. absurd (true≢false (rw e at h)); output = λ e. absurd (true≢false (rw e at h)) }

    closed : Closed K Every
    closed = record {
      constant = λ v. adds _ (other _ refl);
      both = λ x y. adds _ (other _ refl);
      either = λ x y. adds _ (other _ refl);
      differ = λ x y. adds _ (other _ refl);
      inverse = λ x. adds _ (other _ refl);
      choice = λ x y z. adds _ (other _ refl);
      arithmetic = λ o xs s i b. adds _ (other _ refl);
      comparison = λ o. adds _ (other _ refl);
      arithmetic_cell = λ op xs ys c s ns. puts (arithmetic_key op xs ys c ++ ns) (λ e. absurd (omega arith));
      comparison_cell = λ op xs ys s ns. puts (comparison_key op xs ys ++ ns) (λ e. absurd (omega arith));
    }

    walked : (ob : Bool) (ss : List Step) (st : State) → K st.netlist → Walked K (lower_all m ob ss st)
    walked ob ss st h = all_walked K Every closed (λ xs. tt) m ob ss st h

    reserved : (st : State) (s : ℕ) (r : Made (List ℕ)) → Leaves K r → Walked K (reserve st s r)
    unfolding set_signal
    reserved st s r k = ends_then r k (λ (ns, l) h. ends_done h)

    -- ---- nodes and records of registers and memories ----

    bits_go : (kind owner b s : ℕ) (st : State) → (kind ≡ 0 → ⊥) → (kind ≡ 8 → ⊥) → K st.netlist → Walked K (reserve_bits m kind owner b s st)
    bits_go kind owner b s st x y h =
        reserved st s (add_nodes (source kind owner) b (signal_width m s) st.netlist)
        (nodes_kept K (source kind owner) b (signal_width m s) (λ i k. adds _ (record { input = λ e. absurd (x e); output = λ e. absurd (y e) })) st.netlist h)

    registers_go : (k : ℕ) (rs : List Register) (st : State) → K st.netlist → Walked K (reserve_registers m k rs st)
    unfolding reserve_registers
    registers_go k [] st h = ends_done h
    registers_go k (r ∷ rs) st h =
        ends_then (reserve_bits m 7 k 0 r.target st) (bits_go 7 k 0 r.target st (λ e. absurd (omega arith)) (λ e. absurd (omega arith)) h) (λ st₁ i. registers_go (suc k) rs st₁ i)

    second_goes : (k b : ℕ) (p : Option Port) (st : State) → K st.netlist → Walked K (reserve_second m k b p st)
    second_goes k b none st h = ends_done h
    second_goes k b (some p) st h = bits_go 9 k b p.read_data st (λ e. absurd (omega arith)) (λ e. absurd (omega arith)) h

    memories_go : (k : ℕ) (xs : List Memory) (st : State) → K st.netlist → Walked K (reserve_memories m k xs st)
    unfolding reserve_memories
    memories_go k [] st h = ends_done h
    memories_go k (x ∷ xs) st h =
        ends_then (reserve_bits m 9 k 0 x.first.read_data st) (bits_go 9 k 0 x.first.read_data st (λ e. absurd (omega arith)) (λ e. absurd (omega arith)) h) (λ st₁ i.
        ends_then (reserve_second m k (signal_width m x.first.read_data) x.second st₁) (second_goes k (signal_width m x.first.read_data) x.second st₁ i)
        (λ st₂ j. memories_go (suc k) xs st₂ j))

    pushed : (r : List ℕ) (st : State) → (get_or r 0 0 ≡ 0 → ⊥) → K st.netlist → Walked K (push_record r st)
    pushed r st n h = ends_then (push r st.netlist) (push_kept K r (puts r n) st.netlist h) (λ l k. ends_done k)

    connect_memories_law : (ob : Bool) (k : ℕ) (xs : List Memory) (st : State) → K st.netlist → Walked K (connect_memories m ob k xs st)
    unfolding connect_memories
    connect_memories_law ob k [] st h = ends_done h
    connect_memories_law ob k (x ∷ xs) st h =
        ends_then (lower_all m ob (memory_steps x) st) (walked ob (memory_steps x) st h) (λ st₁ i.
        ends_then (push_record (2 ∷ k ∷ x.depth ∷ x.style ∷ 1 ∷ ports_words m st₁ x.first x.second) st₁)
        (pushed (2 ∷ k ∷ x.depth ∷ x.style ∷ 1 ∷ ports_words m st₁ x.first x.second) st₁ (λ e. absurd (omega arith)) i) (λ st₂ j. connect_memories_law ob (suc k) xs st₂ j))

    register_pushed : (k : ℕ) (r : Register) (b : ℕ) (st : State) (o : Option Reset) → K st.netlist → Walked K (push_register k r b st o)
    register_pushed k r b st o h = pushed _ st (λ e. absurd (omega arith)) h

    reset_pushed : (o : Option Bool) (k : ℕ) (r : Register) (b : ℕ) (st : State) (x : Reset) → K st.netlist → Walked K (reset_by o k r b st x)
    reset_pushed none k r b st x h = ends_refused
    reset_pushed (some v) k r b st x h =
        register_pushed k r b st (some (record { control = net_control st x.control; asynchronous = x.asynchronous; value = bit_word v })) h

    bit_pushed : (o : Option Reset) (k : ℕ) (r : Register) (b : ℕ) (st : State) → K st.netlist → Walked K (register_bit o k r b st)
    bit_pushed none k r b st h = register_pushed k r b st none h
    bit_pushed (some x) k r b st h = reset_pushed (constant_value st.netlist (whole_net st x.value b)) k r b st x h

    bits_pushed : (k : ℕ) (r : Register) (b w : ℕ) (st : State) → K st.netlist → Walked K (register_bits k r b w st)
    unfolding register_bits
    bits_pushed k r b zero st h = ends_done h
    bits_pushed k r b (suc w) st h = ends_then (register_bit r.reset k r b st) (bit_pushed r.reset k r b st h) (λ st₁ i. bits_pushed k r (suc b) w st₁ i)

    connect_registers_law : (ob : Bool) (k : ℕ) (rs : List Register) (st : State) → K st.netlist → Walked K (connect_registers m ob k rs st)
    unfolding connect_registers
    connect_registers_law ob k [] st h = ends_done h
    connect_registers_law ob k (r ∷ rs) st h =
        ends_then (lower_all m ob (register_steps r) st) (walked ob (register_steps r) st h) (λ st₁ i.
        ends_then (register_bits k r 0 (signal_width m r.target) st₁) (bits_pushed k r 0 (signal_width m r.target) st₁ i) (λ st₂ j. connect_registers_law ob (suc k) rs st₂ j))

    -- ---- a port more ----

    abbrev Also : ℕ → ℕ → Netlist → Type 0
    Also s w l = Ordered m (ps ++ ((s, w) ∷ [])) l

    port_pushed : (s w : ℕ) (o : Made (List ℕ)) → Leaves K o → Leaves (Also s w) (add_recorded (0 ∷ s ∷ w ∷ []) o)
    unfolding add_recorded push
    port_pushed s w o k =
        ends_then o k (λ (ns, l) h.
        ends_then {P = Also s w} (push (0 ∷ s ∷ w ∷ ns) l) (ends_if (leb (used l.records + length (0 ∷ s ∷ w ∷ ns)) l.max_list) (ends_done (more ns l h)) ends_refused) (λ l₁ g. ends_done g))
      where
        more : (ns : List ℕ) (l : Netlist) → K l → Also s w (with_record (0 ∷ s ∷ w ∷ ns) l)
        more ns l h = record {
          ports = ap (map port) (with_new 0 l.records (0 ∷ s ∷ w ∷ ns) refl) ∙ map_last (records_with 0 l.records) (0 ∷ s ∷ w ∷ ns)
              ∙ ap (λ (z : List (ℕ × ℕ)). z ++ ((s, w) ∷ [])) h.ports;
          nodes = h.nodes;
        }

    input_goes : (s w : ℕ) (st : State) → dir_of m s ≡ R.Input → K st.netlist → Walked (Also s w) (reserve st s (add_input_port s w st.netlist))
    unfolding add_input_port set_signal
    input_goes s w st d h =
        ends_then (add_recorded (0 ∷ s ∷ w ∷ []) (add_nodes (source 0 s) 0 w st.netlist))
        (port_pushed s w (add_nodes (source 0 s) 0 w st.netlist)
        (nodes_kept K (source 0 s) 0 w (λ i k. adds _ (record { input = λ e. d; output = λ e. absurd (omega arith) })) st.netlist h)) (λ (ns, l) g. ends_done g)

    output_goes : (s : ℕ) (xs : List ℕ) (l : Netlist) → dir_of m s ≡ R.Output → K l → Leaves (Also s (length xs)) (add_output_port s xs l)
    unfolding add_output_port
    output_goes s xs l d h =
        port_pushed s (length xs) (both (λ b x. add_node (node 8 s b x absent absent)) (from 0 (length xs)) xs l)
        (both_kept K (λ b x. add_node (node 8 s b x absent absent))
        (λ b x l₁ k. node_kept K (node 8 s b x absent absent) (adds _ (record { input = λ e. absurd (omega arith); output = λ e. d })) l₁ k) (from 0 (length xs)) xs l h)

  -- ---- all inputs, all outputs ----

  same : {ps qs : List (ℕ × ℕ)} → ps ≡ qs → (o : Out State) → Walked (Ordered m ps) o → Walked (Ordered m qs) o
  same e o w = subst (λ (z : List (ℕ × ℕ)). Walked (Ordered m z) o) e w

  -- a signal of the direction, if it is one
  abbrev here : (Dir → Bool) → Dir → ℕ → ℕ → List (ℕ × ℕ)
  here f d s w = pick (f d) ((s, w) ∷ []) []

  input_here : (ps : List (ℕ × ℕ)) (d : Dir) (s w : ℕ) (st : State) → dir_of m s ≡ d → Ordered m ps st.netlist → Walked (Ordered m (ps ++ here is_input d s w)) (reserve_input d s w st)
  unfolding pick
  input_here ps R.Internal s w st e h = same (sym (append-nil ps)) (done st) (ends_done h)
  input_here ps R.Input s w st e h = input_goes ps s w st e h
  input_here ps R.Output s w st e h = same (sym (append-nil ps)) (done st) (ends_done h)

  inputs_go : (ps : List (ℕ × ℕ)) (s : ℕ) (xs : List Sig) (st : State) → From s xs → Ordered m ps st.netlist → Walked (Ordered m (ps ++ signals_from is_input s xs)) (reserve_inputs s xs st)
  unfolding reserve_inputs signals_from
  inputs_go ps s [] st e h = same (sym (append-nil ps)) (done st) (ends_done h)
  inputs_go ps s (x ∷ xs) st e h =
      ends_then (reserve_input x.dir s x.width st) (input_here ps x.dir s x.width st (dir_at s x xs e) h) (λ st₁ k.
      same (append_assoc ps (here is_input x.dir s x.width) (signals_from is_input (suc s) xs)) (reserve_inputs (suc s) xs st₁)
      (inputs_go (ps ++ here is_input x.dir s x.width) (suc s) xs st₁ (from_next s x xs e) k))

  output_here : (ob : Bool) (ps : List (ℕ × ℕ)) (d : Dir) (s w : ℕ) (st : State) → dir_of m s ≡ d → Ordered m ps st.netlist
      → Walked (Ordered m (ps ++ here is_output d s w)) (connect_output m ob d s w st)
  unfolding pick
  output_here ob ps R.Internal s w st e h = same (sym (append-nil ps)) (done st) (ends_done h)
  output_here ob ps R.Input s w st e h = same (sym (append-nil ps)) (done st) (ends_done h)
  output_here ob ps R.Output s w st e h =
      ends_then (lower_all m ob (signal_steps s 0 w) st) (walked ps ob (signal_steps s 0 w) st h) (λ st₁ i.
      ends_then (add_output_port s (signal_nets st₁ s 0 w) st₁.netlist)
      (subst (λ (n : ℕ). Leaves (Ordered m (ps ++ ((s, n) ∷ []))) (add_output_port s (signal_nets st₁ s 0 w) st₁.netlist)) (nets_length st₁ s 0 w)
      (output_goes ps s (signal_nets st₁ s 0 w) st₁.netlist e i)) (λ (ns, n) j. ends_done j))

  outputs_go : (ob : Bool) (ps : List (ℕ × ℕ)) (s : ℕ) (xs : List Sig) (st : State) → From s xs → Ordered m ps st.netlist
      → Walked (Ordered m (ps ++ signals_from is_output s xs)) (connect_outputs m ob s xs st)
  unfolding connect_outputs signals_from
  outputs_go ob ps s [] st e h = same (sym (append-nil ps)) (done st) (ends_done h)
  outputs_go ob ps s (x ∷ xs) st e h =
      ends_then (connect_output m ob x.dir s x.width st) (output_here ob ps x.dir s x.width st (dir_at s x xs e) h) (λ st₁ k.
      same (append_assoc ps (here is_output x.dir s x.width) (signals_from is_output (suc s) xs)) (connect_outputs m ob (suc s) xs st₁)
      (outputs_go ob (ps ++ here is_output x.dir s x.width) (suc s) xs st₁ (from_next s x xs e) k))

  -- ---- the whole ----

  lowered : (ob : Bool) (N P : ℕ) → Walked (Ordered m (inputs m ++ outputs m)) (lower_state ob m N P)
  unfolding lower_state start reserve_sources records_with only
  lowered ob N P =
      ends_then (reserve_sources m (start m N P))
      (ends_then (reserve_inputs 0 m.signals (start m N P)) (inputs_go [] 0 m.signals (start m N P) refl (record { ports = refl; nodes = tt })) (λ st₁ a.
      ends_then (reserve_registers m 0 m.registers st₁) (registers_go (inputs m) 0 m.registers st₁ a) (λ st₂ b. memories_go (inputs m) 0 m.memories st₂ b))) (λ st₃ c.
      ends_then (connect_memories m ob 0 m.memories st₃) (connect_memories_law (inputs m) ob 0 m.memories st₃ c) (λ st₄ d.
      ends_then (connect_registers m ob 0 m.registers st₄) (connect_registers_law (inputs m) ob 0 m.registers st₄ d) (λ st₅ e. outputs_go ob (inputs m) 0 m.signals st₅ refl e)))

  pub ordered : (ob : Bool) (N P : ℕ) (st : State) → lower_state ob m N P ≡ done st → Ordered m (inputs m ++ outputs m) st.netlist
  ordered ob N P st e = (rw e at (lowered ob N P)).ends
