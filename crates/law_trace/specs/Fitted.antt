-- `connect_memories`, `connect_registers` and `connect_outputs` keep what `Clocks` is about; so it holds of a lowered netlist, if the module's
-- clocks and asynchronous resets are input ports. Assumes nothing.
use Prim.Native.Nat.{ℕ, zero, suc, ◌+◌, ◌*◌, ◌<◌}
use Rattle.std.proofs.Common.{not-suc-le-zero, sym, ap, ◌∙◌}
use native.Mathlib.Omega.{arith}
use Rattle.std.proofs.Math.Decide.{dec_lt}
use Rattle.std.specs.Prelude.{◌≡◌, Bool, true, false}
use Rattle.std.proofs.Math.Path.{refl, subst}
use mathlib.Core.List.{List, [], ◌∷◌, ◌++◌, map}
use Rattle.std.proofs.Math.Option.{Option, none, some}
use Rattle.std.proofs.Math.ListN.{length, length-map, get_or-eq_default}
use Rattle.spec_rtl.specs.Rtl as R
use Rattle.spec_rtl.specs.Rtl.{Module, Sig, Dir, Control, Register, Port, Memory, Reset, dir_of}
use Rattle.spec_tests.specs.Rules.{only}
use Rattle.spec_rules.specs.NetlistImage.{MemoryCell, memory_of}
use Rattle.spec_rules.specs.Step.{Ported}
use Rattle.spec_model.specs.Words.{absent, node, Netlist, bit_word, low_word, control_words, reset_words}
use Rattle.spec_model.specs.Builder.{done, constant_value, add_output_port}
use Rattle.spec_model.specs.Lowering.{State, with_netlist, signal_width, signal_net, signal_nets, whole_net, signal_steps, memory_steps, register_steps, lower_all, start, reserve_inputs, reserve_registers, reserve_sources, net_control, option_control, push_record, connect_memories, push_register, reset_by, register_bit, register_bits, connect_registers, connect_output, connect_outputs, lower_state}
use Rattle.spec_trace.specs.Opened.{bits_of}
use Rattle.law_nets.specs.Meaning.{records_with}
use Rattle.law_nets.specs.Nodes.{with_new, with_same}
use Rattle.law_walk.specs.Tables.{none_some, some_eq}
use Rattle.law_walk.specs.Good.{Good}
use Rattle.law_owners.specs.Ends.{All, Ends, ends_done, ends_refused, ends_then}
use Rattle.law_owners.specs.Kept.{output_kept}
use Rattle.law_trace.specs.Signals.{memory_bits}
use Rattle.law_trace.specs.Memories.{memory_words, says}
use Rattle.law_trace.specs.Clocks.{InputNet, Fed, Clocked, adds, puts, seat_net, all_of, Stage, stage_later, Rowed, inputs_stage, Apart, registers_stage, ApartBoth, memories_stage, walk_stage, push_stage}

-- ---- a register's record ----

one_true : (b : Bool) → bit_word b ≡ 1 → b ≡ true
one_true true e = refl
one_true false e = absurd (omega arith)

module _ (l : Netlist) (k b t n c e : ℕ) (clocked : InputNet l c) where
  -- its reset, if it has one, is an input net where it is asynchronous
  abbrev Resets : Option Reset → Type 0
  Resets q = (x : Reset) → q ≡ some x → x.asynchronous ≡ true → InputNet l x.control.signal

  register_fed : (o : Option Control) (q : Option Reset) → Resets q → Fed l (1 ∷ k ∷ b ∷ t ∷ n ∷ c ∷ e ∷ (control_words o ++ reset_words q))
  register_fed none none h = record { clock = λ z. clocked; reset = λ z a i. absurd (i refl); first = λ z. absurd (omega arith); second = λ z. absurd (omega arith) }
  register_fed none (some x) h = record {
    clock = λ z. clocked;
    reset = λ z a i. h x refl (one_true x.asynchronous a);
    first = λ z. absurd (omega arith);
    second = λ z. absurd (omega arith);
  }
  register_fed (some d) none h = record { clock = λ z. clocked; reset = λ z a i. absurd (i refl); first = λ z. absurd (omega arith); second = λ z. absurd (omega arith) }
  register_fed (some d) (some x) h = record {
    clock = λ z. clocked;
    reset = λ z a i. h x refl (one_true x.asynchronous a);
    first = λ z. absurd (omega arith);
    second = λ z. absurd (omega arith);
  }

-- ---- bits ----

bits_last : (xs : List MemoryCell) (y : MemoryCell) → bits_of (xs ++ (y ∷ [])) ≡ bits_of xs + y.depth * length y.first.read_data
unfolding bits_of
bits_last [] y = omega arith
bits_last (x ∷ xs) y = let h = bits_last xs y in omega arith

map_last : (rs : List (List ℕ)) (r : List ℕ) → map memory_of (rs ++ (r ∷ [])) ≡ map memory_of rs ++ (memory_of r ∷ [])
map_last [] r = refl
map_last (x ∷ rs) r = ap (λ (z : List MemoryCell). memory_of x ∷ z) (map_last rs r)

module _ (m : Module) (good : Good m) (ob : Bool) where
  abbrev all : ℕ
  all = length m.signals

  abbrev Here : ℕ → State → Type 0
  Here n st = Stage m good all n st

  inside : (p : ℕ) → dir_of m p ≡ R.Input → p < all
  inside p d = go (dec_lt p all)
    where
      go : Dec (p < all) → p < all
      go (yes h) = h
      go (no h) =
          let q : dir_of m p ≡ R.Internal = ap (λ (x : Sig). x.dir) (get_or-eq_default m.signals (record { width = 0; dir = R.Internal }) {n = p} (omega arith)) in
          let z : ◌≡◌ {A = ℕ} 0 1 = cc in
          absurd (omega arith)

  -- the net of an input
  net_of_law : (n : ℕ) (st : State) → Here n st → (p : ℕ) → dir_of m p ≡ R.Input → InputNet st.netlist (signal_net st p 0)
  net_of_law n st g p d = seat_net st p (g.seats p (inside p d) d)

  -- ---- memories ----

  pub record Clocks (x : Memory) : Type 0 where
    pub first : dir_of m x.first.clock ≡ R.Input
    pub second : (q : Port) → x.second ≡ some q → dir_of m q.clock ≡ R.Input

  memory_fed : (n k : ℕ) (x : Memory) (st : State) → Clocks x → Here n st → Fed st.netlist (memory_words m st k x x.second)
  memory_fed n k x st c g =
      let w = says m st k x x.second in
      record {
        clock = λ z. absurd (omega arith);
        reset = λ z. absurd (omega arith);
        first = λ z. subst (InputNet st.netlist) (sym w.first) (net_of_law n st g x.first.clock c.first);
        second = λ z p e. let q = w.second p e in subst (InputNet st.netlist) (sym q.2) (net_of_law n st g q.0.clock (c.second q.0 q.1));
      }

  memory_bits_law : (n k : ℕ) (x : Memory) (st : State) → Here n st
      → bits_of (map memory_of (records_with 2 (st.netlist.records ++ (memory_words m st k x x.second ∷ [])))) ≡ n + x.depth * signal_width m x.first.read_data
  memory_bits_law n k x st g =
      let r = memory_words m st k x x.second in
      let rs = records_with 2 st.netlist.records in
      ap (λ (z : List (List ℕ)). bits_of (map memory_of z)) (with_new 2 st.netlist.records r refl) ∙ ap bits_of (map_last rs r) ∙ bits_last (map memory_of rs) (memory_of r)
      ∙ ap (λ (z : ℕ). z + (memory_of r).depth * length (memory_of r).first.read_data) g.held.bits ∙ ap (λ (z : ℕ). n + z) (says m st k x x.second).bits

  connect_memories_law : (n k : ℕ) (xs : List Memory) (st : State) → All Clocks xs → Here n st → Ends (Here (n + memory_bits m xs)) (connect_memories m ob k xs st)
  unfolding connect_memories memory_bits
  connect_memories_law n k [] st c g = let z : n ≡ n + 0 = omega arith in ends_done (subst (λ (i : ℕ). Here i st) z g)
  connect_memories_law n k (x ∷ xs) st c g =
      let b = x.depth * signal_width m x.first.read_data in
      let z : n + b + memory_bits m xs ≡ n + (b + memory_bits m xs) = omega arith in
      subst (λ (i : ℕ). Ends (Here i) (connect_memories m ob k (x ∷ xs) st)) z
      (ends_then (lower_all m ob (memory_steps x) st) (walk_stage m good all n ob (memory_steps x) st g) (λ st₁ g₁.
      ends_then (push_record (memory_words m st₁ k x x.second) st₁)
      (push_stage m good all n (n + b) (memory_words m st₁ k x x.second) st₁ (memory_fed n k x st₁ c.0 g₁) (memory_bits_law n k x st₁ g₁) g₁)
      (λ st₂ g₂. connect_memories_law (n + b) (suc k) xs st₂ c.1 g₂)))

  -- ---- registers ----

  pub record Feeds (r : Register) : Type 0 where
    pub clock : dir_of m r.clock ≡ R.Input
    pub reset : (x : Reset) → r.reset ≡ some x → x.asynchronous ≡ true → dir_of m x.control.signal ≡ R.Input

  register_pushed : (n k b : ℕ) (r : Register) (st : State) (q : Option Reset) → Feeds r → ((x : Reset) → q ≡ some x → x.asynchronous ≡ true → InputNet st.netlist x.control.signal)
      → Here n st → Ends (Here n) (push_register k r b st q)
  register_pushed n k b r st q c h g =
      let o = option_control st r.enable in
      let w : List ℕ = 1 ∷ k ∷ b ∷ signal_net st r.target b ∷ whole_net st r.next b ∷ signal_net st r.clock 0 ∷ low_word r.rising ∷ (control_words o ++ reset_words q) in
      push_stage m good all n n w st (register_fed st.netlist k b _ _ (signal_net st r.clock 0) _ (net_of_law n st g r.clock c.clock) o q h)
      (ap (λ (z : List (List ℕ)). bits_of (map memory_of z)) (with_same 2 st.netlist.records w (λ e. omega arith)) ∙ g.held.bits) g

  reset_pushed : (n k b : ℕ) (r : Register) (st : State) (x : Reset) (o : Option Bool) → r.reset ≡ some x → Feeds r → Here n st → Ends (Here n) (reset_by o k r b st x)
  reset_pushed n k b r st x none e c g = ends_refused
  reset_pushed n k b r st x (some v) e c g =
      let y : Reset = record { control = net_control st x.control; asynchronous = x.asynchronous; value = bit_word v } in
      register_pushed n k b r st (some y) c
      (λ z f a. let i : y ≡ z = some_eq f in
      subst (λ (u : Reset). InputNet st.netlist u.control.signal) i (net_of_law n st g x.control.signal (c.reset x e (ap (λ (u : Reset). u.asynchronous) i ∙ a)))) g

  bit_pushed : (n k b : ℕ) (r : Register) (st : State) (o : Option Reset) → r.reset ≡ o → Feeds r → Here n st → Ends (Here n) (register_bit o k r b st)
  bit_pushed n k b r st none e c g = register_pushed n k b r st none c (λ x f. absurd (none_some f)) g
  bit_pushed n k b r st (some x) e c g = reset_pushed n k b r st x (constant_value st.netlist (whole_net st x.value b)) e c g

  bits_pushed : (n k : ℕ) (r : Register) (b w : ℕ) (st : State) → Feeds r → Here n st → Ends (Here n) (register_bits k r b w st)
  unfolding register_bits
  bits_pushed n k r b zero st c g = ends_done g
  bits_pushed n k r b (suc w) st c g = ends_then (register_bit r.reset k r b st) (bit_pushed n k b r st r.reset refl c g) (λ st₁ g₁. bits_pushed n k r (suc b) w st₁ c g₁)

  connect_registers_law : (n k : ℕ) (rs : List Register) (st : State) → All Feeds rs → Here n st → Ends (Here n) (connect_registers m ob k rs st)
  unfolding connect_registers
  connect_registers_law n k [] st c g = ends_done g
  connect_registers_law n k (r ∷ rs) st c g =
      ends_then (lower_all m ob (register_steps r) st) (walk_stage m good all n ob (register_steps r) st g) (λ st₁ g₁.
      ends_then (register_bits k r 0 (signal_width m r.target) st₁) (bits_pushed n k r 0 (signal_width m r.target) st₁ c.0 g₁) (λ st₂ g₂. connect_registers_law n (suc k) rs st₂ c.1 g₂))

  -- ---- outputs ----

  connect_output_law : (n : ℕ) (d : Dir) (s w : ℕ) (st : State) → Here n st → Ends (Here n) (connect_output m ob d s w st)
  connect_output_law n R.Internal s w st g = ends_done g
  connect_output_law n R.Input s w st g = ends_done g
  connect_output_law n R.Output s w st g =
      ends_then (lower_all m ob (signal_steps s 0 w) st) (walk_stage m good all n ob (signal_steps s 0 w) st g) (λ st₁ g₁.
      ends_then (add_output_port s (signal_nets st₁ s 0 w) st₁.netlist)
      (output_kept (Clocked st₁.netlist n) s (signal_nets st₁ s 0 w) (λ b x. adds st₁.netlist n (node 8 s b x absent absent))
      (λ ns. puts st₁.netlist n (0 ∷ s ∷ ns) (λ e. absurd (omega arith)) (λ e. absurd (omega arith))) st₁.netlist g₁.held)
      (λ (ns, l) c. ends_done (stage_later m good all n n st₁ (with_netlist st₁ l) g₁ (λ p d. refl) c)))

  connect_outputs_law : (n s : ℕ) (xs : List Sig) (st : State) → Here n st → Ends (Here n) (connect_outputs m ob s xs st)
  unfolding connect_outputs
  connect_outputs_law n s [] st g = ends_done g
  connect_outputs_law n s (x ∷ xs) st g = ends_then (connect_output m ob x.dir s x.width st) (connect_output_law n x.dir s x.width st g) (λ st₁ g₁. connect_outputs_law n (suc s) xs st₁ g₁)

  -- ---- the whole ----

  targets : All (λ r. Apart m good r.target) m.registers
  targets = all_of _ m.registers (λ k r e. (good.registers k r e).input)

  datas : All (ApartBoth m good) m.memories
  datas = all_of _ m.memories (λ k x e. ((good.memories k x e).first.input, λ q f. ((good.memories k x e).second q f).input))

  begun : (N P : ℕ) → Rowed m good 0 0 (start m N P)
  unfolding start records_with only bits_of
  begun N P = (
    length-map m.signals _,
    record { seats = λ p h. absurd (not-suc-le-zero h); held = record { inputs = λ k h. h; records = tt; bits = refl } },
  )

  module _ (ported : Ported m) where
    feeds : All Feeds m.registers
    feeds = all_of Feeds m.registers (λ k r e. record { clock = ported.registers k r e; reset = λ x f a. ported.resets k r x e f a })

    clocks : All Clocks m.memories
    clocks = all_of Clocks m.memories (λ k x e. record { first = ported.memories k x e; second = λ q f. ported.seconds k x q e f })

    lowered : (N P : ℕ) → Ends (Here (0 + memory_bits m m.memories)) (lower_state ob m N P)
    unfolding lower_state reserve_sources
    lowered N P =
        let z : 0 + length m.signals ≡ all = omega arith in
        ends_then (reserve_sources m (start m N P))
        (ends_then (reserve_inputs 0 m.signals (start m N P)) (inputs_stage m good 0 0 m.signals (start m N P) refl (begun N P)) (λ st₁ g₁.
        let h₁ : Here 0 st₁ = subst (λ (i : ℕ). Stage m good i 0 st₁) z g₁.1 in
        ends_then (reserve_registers m 0 m.registers st₁) (registers_stage m good all 0 0 m.registers st₁ targets h₁) (λ st₂ g₂. memories_stage m good all 0 0 m.memories st₂ datas g₂))) (λ st₃ g₃.
        ends_then (connect_memories m ob 0 m.memories st₃) (connect_memories_law 0 0 m.memories st₃ clocks g₃) (λ st₄ g₄.
        ends_then (connect_registers m ob 0 m.registers st₄) (connect_registers_law (0 + memory_bits m m.memories) 0 m.registers st₄ feeds g₄) (λ st₅ g₅.
        connect_outputs_law (0 + memory_bits m m.memories) 0 m.signals st₅ g₅)))

    pub clocked : (N P : ℕ) (st : State) → lower_state ob m N P ≡ done st → Clocked st.netlist (0 + memory_bits m m.memories) st.netlist
    clocked N P st e = (rw e at (lowered N P)).ends.held
