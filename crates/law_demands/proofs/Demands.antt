-- What is proved of specs/Demands: Demands 2 and 3 of every lowering of a good module that succeeds, with either flag; that the module has one run; the size of the image.
-- Assumes nothing.
use Rattle.std.specs.Prelude.{◌≡◌, Bool, true, false, cond, ◌&&◌, List, [], map, ℕ, suc, ◌+◌, ◌*◌, ◌≤◌, ltb, length}
use Rattle.std.proofs.Math.Path.{refl, fun_ext}
use Rattle.std.proofs.Common.{sym, ap, subst, ◌∙◌, suc-le-suc, arith, ltb-true, ltb-false}
use Rattle.std.proofs.Math.Option
use Rattle.std.proofs.Math.Option.{Option, none, some}
use Rattle.std.proofs.Math.ListN.{get_elem?}
use Rattle.spec_rtl.specs.Ops.{tab}
use Rattle.spec_rtl.specs.Rtl as R
use Rattle.spec_rtl.specs.Rtl.{Module, Valuation, word, dir_of}
use Rattle.spec_rules.specs.NetlistImage as N
use Rattle.spec_rules.specs.NetlistImage.{netlist}
use Rattle.spec_rules.specs.Step.{Setting, Contents, perhaps, Load, Machine, net, run, settled, bit_count, width_of, is_output, module_load, module_access, module_accesses, net_load, net_access, net_accesses, find_memory, find_bit, find_port, of_module, of_netlist, IsInput, Ported, Demand2, Demand3}
use Rattle.spec_model.specs.Words.{Netlist, absent, words}
use Rattle.spec_model.specs.Builder.{Out, done}
use Rattle.spec_model.specs.Lowering.{signal_bit, State, cell, whole, expression_net, signal_width, lower_state}
use Rattle.net_view.specs.View.{Fit}
use Rattle.net_view.specs.Laws.{length_words}
use Rattle.law_nets.specs.Meaning.{meaning_of, net_value}
use Rattle.law_nets.specs.Run.{Meets}
use Rattle.law_nets.proofs.Run.{later_refl}
use Rattle.law_nets.proofs.Image.{words_netlist}
use Rattle.law_walk.specs.Tables.{filled_le}
use Rattle.law_walk.specs.Good.{Good}
use Rattle.law_walk.specs.Kept.{Any, Agrees, Wide, Inv}
use Rattle.law_records.specs.Find.{memory_find, bit_find, port_find}
use Rattle.law_phases.specs.Made.{bit_in, port_in, IsBit, SamePort, SameSecond, SameMemory, SameBit, Found}
use Rattle.law_phases.specs.Drivers.{input_driver}
use Rattle.law_phases.specs.Sources.{inside}
use Rattle.law_phases.proofs.Outputs.{Lowered, lowered}
use Rattle.law_demands.specs.Reads.{half_load, half_access}
use Rattle.law_demands.proofs.ReadsLaws.{bit_at, word_at, half_load_law, net_load_law, half_access_law, net_access_law}
use Rattle.law_demands.specs.Demands.{machine_alike, map_elem, output_there, past, tab_elem, tab_past}

module _ (m : Module) (good : Good m) (ob : Bool) (lim : ℕ × ℕ) (st : State) (w : Lowered m good ob lim st) where
  abbrev L : Netlist
  L = st.netlist

  inv : Inv m st
  inv = w.connected.inv

  memory_is : (k : ℕ) (x : R.Memory) → get_elem? m.memories k ≡ some x → Found (find_memory (meaning_of L).memories k) (SameMemory m L st.signal_bits x)
  memory_is k x e =
      let f = w.connected.memories.made k x (inside m.memories k x e) e in
      record { value = f.value; is = memory_find (meaning_of L).memories k ∙ f.is; holds = f.holds }

  wide : Wide m L
  wide = record { wide = λ k x e. let f = memory_is k x e in ap (perhaps 0 (λ (y : N.MemoryCell). length y.first.read_data)) f.is ∙ f.holds.wide }

  -- every resolved bit has its net's value in the settled values
  agrees : (u : Valuation) (s : Setting) (c : Contents) → Agrees (net_value L s c) (settled m u s c) st.signal_bits
  agrees u s c = inv.settles.settles L (later_refl inv.sound) wide s c u (suc (bit_count m.signals))
      (suc-le-suc (filled_le m.signals (record { width = 0; dir = R.Internal }) st.signal_bits inv.bits.rows inv.bits.cells))

  -- ---- demand 2 ----

  pub expressions : (u : Valuation) (s : Setting) (c : Contents) (e b k : ℕ) → expression_net st e b ≡ some k
      → get_elem? (word m.exprs (settled m u s c) e) b ≡ some (net_value L s c k)
  unfolding expression_net
  expressions u s c e b k q = go (whole st e) refl q
    where
      go : (o : Option (List ℕ)) → whole st e ≡ o → elim o [ some ns ↦ get_elem? ns b | none ↦ cell none st.expression_ranges e b ] ≡ some k
          → get_elem? (word m.exprs (settled m u s c) e) b ≡ some (net_value L s c k)
      go (some ns) h q =
          rw (← word_at m L inv.sound st.signal_bits s c (settled m u s c) (agrees u s c) ns (λ v. word m.exprs v e) (inv.wholes e ns h), ← map_elem (net_value L s c) ns b, q)
      go none h q = ((inv.ranges e).holds L (later_refl inv.sound) s c (settled m u s c) (agrees u s c)).fits b k q

  -- ---- what a step reads ----

  -- an input's net has the input
  input_at_law : (u : Valuation) (s : Setting) (c : Contents) (n p : ℕ) → dir_of m p ≡ R.Input → IsBit L st.signal_bits n p → net_value L s c n ≡ s p 0
  input_at_law u s c n p d h = bit_at m L inv.sound st.signal_bits s c (settled m u s c) (agrees u s c) n p h ∙ rw (input_driver m p 0 d)

  module _ (u : Valuation) (s : Setting) (c : Contents) (t : Setting) where
    -- the module's readings in terms of the netlist before the step and the new inputs
    abbrev half : R.Register → N.RegisterBit → Load
    half r b = half_load m L inv.sound st.signal_bits s c (settled m u s c) (agrees u s c) t r b

    register_half : (k i : ℕ) (r : R.Register) (b : N.RegisterBit) → SameBit m L st.signal_bits i r b
        → module_load (word m.exprs (settled m u s c)) (settled m u s c) t i r ≡ half r b
    register_half k i r b h = half_load_law m L inv.sound st.signal_bits s c (settled m u s c) (agrees u s c) t i r b h

    port_half : (p : R.Port) (b : N.MemoryPort) → SamePort m L st.signal_bits p b
        → module_access (word m.exprs (settled m u s c)) (settled m u s c) t p ≡ half_access m L inv.sound st.signal_bits s c (settled m u s c) (agrees u s c) t p b
    port_half p b h = half_access_law m L inv.sound st.signal_bits s c (settled m u s c) (agrees u s c) t p b h

    module _ (ported : Ported m) where
      register_same : (k i : ℕ) (r : R.Register) (b : N.RegisterBit) → get_elem? m.registers k ≡ some r → SameBit m L st.signal_bits i r b
          → module_load (word m.exprs (settled m u s c)) (settled m u s c) t i r ≡ net_load (net_value L s c) (net_value L t c) b
      register_same k i r b e h = register_half k i r b h
          ∙ net_load_law m L st.signal_bits s t c (input_at_law u t c) i r b h (ported.registers k r e) (λ z f a. ported.resets k r z e f a) inv.sound (settled m u s c) (agrees u s c)

      port_same : (p : R.Port) (b : N.MemoryPort) → IsInput m p.clock → SamePort m L st.signal_bits p b
          → module_access (word m.exprs (settled m u s c)) (settled m u s c) t p ≡ net_access (net_value L s c) (net_value L t c) b
      port_same p b d h = port_half p b h ∙ net_access_law m L st.signal_bits s t c (input_at_law u t c) p b h d inv.sound (settled m u s c) (agrees u s c)

      second_same : (p : Option R.Port) (b : Option N.MemoryPort) → ((q : R.Port) → p ≡ some q → IsInput m q.clock) → SameSecond m L st.signal_bits p b
          → Option.map (module_access (word m.exprs (settled m u s c)) (settled m u s c) t) p ≡ Option.map (net_access (net_value L s c) (net_value L t c)) b
      second_same none none d h = refl
      second_same none (some b) d h = absurd h
      second_same (some p) none d h = absurd h
      second_same (some p) (some b) d h = ap some (port_same p b (d p refl) h)

      memory_same : (k : ℕ) (x : R.Memory) (y : N.MemoryCell) → get_elem? m.memories k ≡ some x → SameMemory m L st.signal_bits x y
          → module_accesses (word m.exprs (settled m u s c)) (settled m u s c) t x ≡ net_accesses (net_value L s c) (net_value L t c) y
      memory_same k x y e h = rw (
        sym h.depth,
        port_same x.first y.first (ported.memories k x e) h.first,
        second_same x.second y.second (λ q f. ported.seconds k x q e f) h.second,
      )

      registers_read : (k i : ℕ) → perhaps none (λ (r : R.Register). cond (ltb i (width_of m r.target)) (some (module_load (word m.exprs (settled m u s c)) (settled m u s c) t i r)) none) (get_elem? m.registers k)
          ≡ Option.map (net_load (net_value L s c) (net_value L t c)) (find_bit (meaning_of L).registers k i)
      registers_read k i = rw (bit_find (meaning_of L).registers k i) (go (get_elem? m.registers k) refl)
        where
          none_there : w.bits k ≤ i → none ≡ Option.map (net_load (net_value L s c) (net_value L t c)) (bit_in (meaning_of L).registers k i)
          none_there h = rw (w.connected.registers.rest k i h)

          one : (r : R.Register) → get_elem? m.registers k ≡ some r → (z : Bool) → ltb i (width_of m r.target) ≡ z
              → cond z (some (module_load (word m.exprs (settled m u s c)) (settled m u s c) t i r)) none
              ≡ Option.map (net_load (net_value L s c) (net_value L t c)) (bit_in (meaning_of L).registers k i)
          one r e true z =
              let a : w.bits k ≡ signal_width m r.target = w.all k ∙ rw e in
              let f = w.connected.registers.made k i r (omega (arith, ltb-true i (width_of m r.target) z)) e in
              rw f.is (ap some (register_same k i r f.value e f.holds))
          one r e false z =
              let a : w.bits k ≡ signal_width m r.target = w.all k ∙ rw e in
              none_there (omega (arith, ltb-false i (width_of m r.target) z))

          go : (o : Option R.Register) → get_elem? m.registers k ≡ o
              → perhaps none (λ (r : R.Register). cond (ltb i (width_of m r.target)) (some (module_load (word m.exprs (settled m u s c)) (settled m u s c) t i r)) none) o
              ≡ Option.map (net_load (net_value L s c) (net_value L t c)) (bit_in (meaning_of L).registers k i)
          go none e = let a : w.bits k ≡ 0 = w.all k ∙ rw e in none_there (omega arith)
          go (some r) e = one r e (ltb i (width_of m r.target)) refl

      memories_read_law : (k : ℕ) → Option.map (module_accesses (word m.exprs (settled m u s c)) (settled m u s c) t) (get_elem? m.memories k)
          ≡ Option.map (net_accesses (net_value L s c) (net_value L t c)) (find_memory (meaning_of L).memories k)
      memories_read_law k = go (get_elem? m.memories k) refl
        where
          go : (o : Option R.Memory) → get_elem? m.memories k ≡ o → Option.map (module_accesses (word m.exprs (settled m u s c)) (settled m u s c) t) o
              ≡ Option.map (net_accesses (net_value L s c) (net_value L t c)) (find_memory (meaning_of L).memories k)
          go none e = rw (memory_find (meaning_of L).memories k, w.connected.memories.rest k (past m.memories k e))
          go (some x) e = let f = memory_is k x e in rw f.is (ap some (memory_same k x f.value e f.holds))

  -- ---- what is shown ----

  shown : (u : Valuation) (s : Setting) (c : Contents) (p i : ℕ) → cond (is_output (dir_of m p) && ltb i (width_of m p)) (some (settled m u s c p i)) none
      ≡ Option.map (net_value L s c) (get_elem? (find_port (meaning_of L).outputs p) i)
  shown u s c p i = rw (port_find (meaning_of L).outputs p) (go (dir_of m p) refl)
    where
      nothing : (dir_of m p ≡ R.Output → ⊥)
          → none ≡ Option.map (net_value L s c) (get_elem? (perhaps [] (λ (x : N.OutPort). x.nets) (port_in (meaning_of L).outputs p)) i)
      nothing d = rw (w.connected.outputs.rest p (λ x. d x.1))

      bits : (z : Bool) → ltb i (width_of m p) ≡ z → cond z (some (settled m u s c p i)) none ≡ get_elem? (tab (signal_width m p) (settled m u s c p)) i
      bits true z = sym (tab_elem (signal_width m p) (settled m u s c p) i (ltb-true i (width_of m p) z))
      bits false z = sym (tab_past (signal_width m p) (settled m u s c p) i (ltb-false i (width_of m p) z))

      go : (d : R.Dir) → dir_of m p ≡ d → cond (is_output d && ltb i (width_of m p)) (some (settled m u s c p i)) none
          ≡ Option.map (net_value L s c) (get_elem? (perhaps [] (λ (x : N.OutPort). x.nets) (port_in (meaning_of L).outputs p)) i)
      go R.Internal e = nothing (λ z. let y : ◌≡◌ {A = ℕ} 0 1 = cc in omega arith)
      go R.Input e = nothing (λ z. let y : ◌≡◌ {A = ℕ} 0 1 = cc in omega arith)
      go R.Output e =
          let f = w.connected.outputs.made p (output_there m p e) e in
          bits (ltb i (width_of m p)) refl
          ∙ rw f.is (sym (map_elem (net_value L s c) f.value.nets i
          ∙ ap (λ (x : List Bool). get_elem? x i) (word_at m L inv.sound st.signal_bits s c (settled m u s c) (agrees u s c) f.value.nets _ f.holds)))

  -- ---- demand 3 ----

  pub machines : Ported m → (u : Valuation) → of_module m u ≡ of_netlist (meaning_of L)
  unfolding net_value
  machines ported u = machine_alike (of_module m u) (of_netlist (meaning_of L))
      (λ s c. fun_ext (λ p. fun_ext (λ i. shown u s c p i)))
      (λ s c t i. record {
        register = λ k b. registers_read u s c t ported k b i;
        memory = λ k. memories_read_law u s c t ported k i;
      })

  -- ---- the module has one run ----

  -- the clocks and resets need be no ports for this
  module _ (u u' : Valuation) where
    register_alike : (s : Setting) (c : Contents) (t : Setting) (k i : ℕ)
        → perhaps none (λ (r : R.Register). cond (ltb i (width_of m r.target)) (some (module_load (word m.exprs (settled m u s c)) (settled m u s c) t i r)) none) (get_elem? m.registers k)
        ≡ perhaps none (λ (r : R.Register). cond (ltb i (width_of m r.target)) (some (module_load (word m.exprs (settled m u' s c)) (settled m u' s c) t i r)) none) (get_elem? m.registers k)
    register_alike s c t k i = go (get_elem? m.registers k) refl
      where
        one : (r : R.Register) → get_elem? m.registers k ≡ some r → (z : Bool) → ltb i (width_of m r.target) ≡ z
            → cond z (some (module_load (word m.exprs (settled m u s c)) (settled m u s c) t i r)) none ≡ cond z (some (module_load (word m.exprs (settled m u' s c)) (settled m u' s c) t i r)) none
        one r e true z =
            let a : w.bits k ≡ signal_width m r.target = w.all k ∙ rw e in
            let f = w.connected.registers.made k i r (omega (arith, ltb-true i (width_of m r.target) z)) e in
            ap some (register_half u s c t k i r f.value f.holds ∙ sym (register_half u' s c t k i r f.value f.holds))
        one r e false z = refl

        go : (o : Option R.Register) → get_elem? m.registers k ≡ o
            → perhaps none (λ (r : R.Register). cond (ltb i (width_of m r.target)) (some (module_load (word m.exprs (settled m u s c)) (settled m u s c) t i r)) none) o
            ≡ perhaps none (λ (r : R.Register). cond (ltb i (width_of m r.target)) (some (module_load (word m.exprs (settled m u' s c)) (settled m u' s c) t i r)) none) o
        go none e = refl
        go (some r) e = one r e (ltb i (width_of m r.target)) refl

    module _ (s : Setting) (c : Contents) (t : Setting) where
      port_alike : (p : R.Port) (b : N.MemoryPort) → SamePort m L st.signal_bits p b
          → module_access (word m.exprs (settled m u s c)) (settled m u s c) t p ≡ module_access (word m.exprs (settled m u' s c)) (settled m u' s c) t p
      port_alike p b h = port_half u s c t p b h ∙ sym (port_half u' s c t p b h)

      second_alike : (p : Option R.Port) (b : Option N.MemoryPort) → SameSecond m L st.signal_bits p b
          → Option.map (module_access (word m.exprs (settled m u s c)) (settled m u s c) t) p ≡ Option.map (module_access (word m.exprs (settled m u' s c)) (settled m u' s c) t) p
      second_alike none b h = refl
      second_alike (some p) none h = absurd h
      second_alike (some p) (some b) h = ap some (port_alike p b h)

      memory_alike : (k : ℕ) → Option.map (module_accesses (word m.exprs (settled m u s c)) (settled m u s c) t) (get_elem? m.memories k)
          ≡ Option.map (module_accesses (word m.exprs (settled m u' s c)) (settled m u' s c) t) (get_elem? m.memories k)
      memory_alike k = go (get_elem? m.memories k) refl
        where
          go : (o : Option R.Memory) → get_elem? m.memories k ≡ o → Option.map (module_accesses (word m.exprs (settled m u s c)) (settled m u s c) t) o
              ≡ Option.map (module_accesses (word m.exprs (settled m u' s c)) (settled m u' s c) t) o
          go none e = refl
          go (some x) e =
              let f = memory_is k x e in
              ap some (rw (port_alike x.first f.value.first f.holds.first, second_alike x.second f.value.second f.holds.second))

    pub one_machine : of_module m u ≡ of_module m u'
    one_machine = machine_alike (of_module m u) (of_module m u')
        (λ s c. fun_ext (λ p. fun_ext (λ i. shown u s c p i ∙ sym (shown u' s c p i))))
        (λ s c t i. record { register = λ k b. register_alike s c t k b i; memory = λ k. memory_alike s c t k i })

  -- ---- the image ----

  fit : Fit lim.0 lim.1 L
  fit =
      let q = inv.sound in
      let e = w.connected.limited in
      record { nets = e.0; list = e.1; few = omega (arith, q.few, e.0); short = omega (arith, q.short, e.1); formed = q.formed }

  pub image : netlist (words lim.0 lim.1 L) ≡ meaning_of L
  image = words_netlist lim.0 lim.1 L fit

  pub image_length : length (words lim.0 lim.1 L) ≡ 16 + 6 * lim.0 + lim.1
  image_length = length_words lim.0 lim.1 L fit

-- ---- of a lowering that succeeds ----

module _ (m : Module) (good : Good m) (ob : Bool) (n p : ℕ) (small : n ≤ absent) (st : State) (ok : lower_state ob m n p ≡ done st) where
  end : Lowered m good ob (n, p) st
  end = subst (λ (o : Out State). Meets Any (Lowered m good ob (n, p)) o) ok (lowered m good ob (n, p) small)

  pub demand2 : Demand2 m (netlist (words n p st.netlist)) (expression_net st)
  unfolding net_value
  demand2 = rw (image m good ob (n, p) st end) (expressions m good ob (n, p) st end)

  -- module and netlist are one machine: they read and show the same, from all contents
  pub same_machine : Ported m → (u : Valuation) → of_module m u ≡ of_netlist (netlist (words n p st.netlist))
  same_machine = rw (image m good ob (n, p) st end) (machines m good ob (n, p) st end)

  pub demand3 : Demand3 m (netlist (words n p st.netlist))
  demand3 ported u c settings = ap (λ (x : Machine). run x c settings) (same_machine ported u)

  -- a resolved bit has its net's value in the settled values, so that does not depend on the values before the first round
  pub resolved : (u : Valuation) (s : Setting) (c : Contents) (q i k : ℕ) → signal_bit st q i ≡ some k
      → settled m u s c q i ≡ net (netlist (words n p st.netlist)) s c k
  unfolding net_value signal_bit
  resolved u s c q i k e = rw (image m good ob (n, p) st end) ((agrees m good ob (n, p) st end u s c).at q i k e)

  -- and the module has one run
  pub determined : (u u' : Valuation) (c : Contents) (settings : List Setting) → run (of_module m u) c settings ≡ run (of_module m u') c settings
  determined u u' c settings = ap (λ (x : Machine). run x c settings) (one_machine m good ob (n, p) st end u u')

  pub sized : length (words n p st.netlist) ≡ 16 + 6 * n + p
  sized = image_length m good ob (n, p) st end
