-- What is proved of specs/Made: What the records of memories, registers and output ports are to the module's, and that it stays so as the lowering goes on. Assumes nothing.
use Rattle.std.specs.Prelude.{◌≡◌, cond, ◌&&◌, List, [], ◌∷◌, ◌++◌, ℕ, suc, ◌≤◌, ◌<◌, eqb}
use Rattle.std.proofs.Common.{sym, ap, ◌∙◌, arith, eq-eqb, ne_eqb}
use Rattle.std.proofs.Math.Option.{Option, none, some}
use Rattle.std.proofs.Math.Decide.{ℕ_discrete}
use Rattle.std.proofs.Math.ListN.{get_elem?}
use Rattle.spec_rtl.specs.Ops.{tab}
use Rattle.spec_rtl.specs.Rtl as R
use Rattle.spec_rtl.specs.Rtl.{Module, Control, dir_of}
use Rattle.spec_rules.specs.NetlistImage as N
use Rattle.spec_model.specs.Words.{Netlist}
use Rattle.spec_model.specs.Lowering.{State, signal_width}
use Rattle.law_nets.specs.Meaning.{meaning_of}
use Rattle.law_nets.specs.Sound.{Later}
use Rattle.law_nets.proofs.Run.{later_trans}
use Rattle.law_nets.proofs.Lists.{memories_same, registers_same, outputs_same}
use Rattle.law_walk.specs.Tables.{some_eq}
use Rattle.law_walk.specs.Kept.{Table, More, more_refl, agrees_less, NetsGive, holds_later, Inv, Grew}
use Rattle.law_records.specs.Find.{find_old, find_last}
use Rattle.law_phases.specs.Made.{Connected, Found, Memories, Outputs, Registers, SameBit, SameControl, SameMemory, SamePort, SameReset, SameSecond, bit_in, found_map, limited_later, memory_in, port_in}

module _ (m : Module) {l l' : Netlist} {t t' : Table} (a : Later l l') (w : More t t') where
  control_later : (x y : Option Control) → SameControl l t x y → SameControl l' t' x y
  control_later none none h = tt
  control_later none (some y) h = absurd h
  control_later (some x) none h = absurd h
  control_later (some x) (some y) h = (holds_later a w h.0, h.1)

  port_later : (p : R.Port) (q : N.MemoryPort) → SamePort m l t p q → SamePort m l' t' p q
  port_later p q h = record {
    read_address = holds_later a w h.read_address;
    write_address = holds_later a w h.write_address;
    write_data = holds_later a w h.write_data;
    read_enable = control_later p.read_enable q.read_enable h.read_enable;
    write_enable = control_later (some p.write_enable) (some q.write_enable) h.write_enable;
    clock = holds_later a w h.clock;
    rising = h.rising;
  }

  second_later : (p : Option R.Port) (q : Option N.MemoryPort) → SameSecond m l t p q → SameSecond m l' t' p q
  second_later none none h = tt
  second_later none (some q) h = absurd h
  second_later (some p) none h = absurd h
  second_later (some p) (some q) h = port_later p q h

  pub memory_later : (x : R.Memory) (y : N.MemoryCell) → SameMemory m l t x y → SameMemory m l' t' x y
  memory_later x y h = record {
    depth = h.depth;
    wide = h.wide;
    first = port_later x.first y.first h.first;
    second = second_later x.second y.second h.second;
  }

  reset_later : (i : ℕ) (x y : Option R.Reset) → SameReset m l t i x y → SameReset m l' t' i x y
  reset_later i none none h = tt
  reset_later i none (some y) h = absurd h
  reset_later i (some x) none h = absurd h
  reset_later i (some x) (some y) h = (holds_later a w h.0, h.1, h.2, record { is = λ k b s c v g. h.3.is k (later_trans a b) s c v (agrees_less w g) })

  pub bit_later : (i : ℕ) (r : R.Register) (b : N.RegisterBit) → SameBit m l t i r b → SameBit m l' t' i r b
  bit_later i r b h = record {
    next = holds_later a w h.next;
    clock = holds_later a w h.clock;
    rising = h.rising;
    enable = control_later r.enable b.register.enable h.enable;
    reset = reset_later i r.reset b.register.reset h.reset;
  }

module _ {m : Module} {l l' : Netlist} {t t' : Table} (a : Later l l') (w : More t t') where
  pub memories_later : {k : ℕ} → (meaning_of l').memories ≡ (meaning_of l).memories → Memories m l t k → Memories m l' t' k
  memories_later e x = record {
    made = λ j y h q. found_map (ap (λ (ys : List N.MemoryCell). memory_in ys j) e) (λ z p. memory_later m a w y z p) (x.made j y h q);
    rest = λ j h. ap (λ (ys : List N.MemoryCell). memory_in ys j) e ∙ x.rest j h;
  }

  pub registers_later : {b : ℕ → ℕ} → (meaning_of l').registers ≡ (meaning_of l).registers → Registers m l t b → Registers m l' t' b
  registers_later e x = record {
    made = λ j i r h q. found_map (ap (λ (ys : List N.RegisterBit). bit_in ys j i) e) (λ z p. bit_later m a w i r z p) (x.made j i r h q);
    rest = λ j i h. ap (λ (ys : List N.RegisterBit). bit_in ys j i) e ∙ x.rest j i h;
  }

  pub outputs_later : {n : ℕ} → (meaning_of l').outputs ≡ (meaning_of l).outputs → Outputs m l t n → Outputs m l' t' n
  outputs_later e x = record {
    made = λ p h q. found_map (ap (λ (ys : List N.OutPort). port_in ys p) e) (λ z y. holds_later a w y) (x.made p h q);
    rest = λ p h. ap (λ (ys : List N.OutPort). port_in ys p) e ∙ x.rest p h;
  }

-- the walk leaves the records as they were
pub connected_grew : {m : Module} {lim : ℕ × ℕ} {st st' : State} {k n : ℕ} {b : ℕ → ℕ} → Connected m lim st k b n → Inv m st' → Grew st st'
    → Connected m lim st' k b n
connected_grew {lim} x i g = record {
  limited = limited_later lim g.later x.limited;
  inv = i;
  memories = memories_later g.later g.more (memories_same g.later.grew g.cells) x.memories;
  registers = registers_later g.later g.more (registers_same g.later.grew g.cells) x.registers;
  outputs = outputs_later g.later g.more (outputs_same g.later.grew g.cells x.inv.sound) x.outputs;
}

-- ---- one record more ----

module _ (m : Module) (l l' : Netlist) (t : Table) (a : Later l l') where
  pub one_memory : (k : ℕ) (x : R.Memory) (y : N.MemoryCell) → get_elem? m.memories k ≡ some x → y.index ≡ k → SameMemory m l' t x y
      → (meaning_of l').memories ≡ (meaning_of l).memories ++ (y ∷ []) → Memories m l t k → Memories m l' t (suc k)
  one_memory k x y q n s e c = record {
    made = λ j z h p. made j z h p (ℕ_discrete j k);
    rest = λ j h. ap (λ (ys : List N.MemoryCell). memory_in ys j) e ∙ find_last (λ z. eqb z.index j) y (meaning_of l).memories (c.rest j (omega arith))
        ∙ rw (ne_eqb y.index j (λ f. omega arith));
  }
    where
      made : (j : ℕ) (z : R.Memory) → j < suc k → get_elem? m.memories j ≡ some z → Dec (j ≡ k) → Found (memory_in (meaning_of l').memories j) (SameMemory m l' t z)
      made j z h p (yes d) =
          let w : x ≡ z = some_eq (sym q ∙ ap (get_elem? m.memories) (sym d) ∙ p) in
          record {
            value = y;
            is = ap (λ (ys : List N.MemoryCell). memory_in ys j) e ∙ find_last (λ z. eqb z.index j) y (meaning_of l).memories (c.rest j (omega arith))
                ∙ rw (eq-eqb y.index j (n ∙ sym d));
            holds = rw (← w) s;
          }
      made j z h p (no d) =
          let f = c.made j z (omega arith) p in
          record {
            value = f.value;
            is = ap (λ (ys : List N.MemoryCell). memory_in ys j) e ∙ find_old (λ z. eqb z.index j) y (meaning_of l).memories f.value f.is;
            holds = memory_later m a more_refl z f.value f.holds;
          }

  -- bit b of register k
  pub one_bit : (k : ℕ) (r : R.Register) (y : N.RegisterBit) (b : ℕ → ℕ) → get_elem? m.registers k ≡ some r → y.index ≡ k → y.bit ≡ b k → SameBit m l' t (b k) r y
      → (meaning_of l').registers ≡ (meaning_of l).registers ++ (y ∷ []) → Registers m l t b → Registers m l' t (λ j. cond (eqb j k) (suc (b k)) (b j))
  one_bit k r y b q n o s e c = record { made = λ j i z h p. made j i z (ℕ_discrete j k) (ℕ_discrete i (b k)) h p; rest = λ j i h. rest j i (ℕ_discrete j k) h }
    where
      new : (j i : ℕ) → bit_in (meaning_of l).registers j i ≡ none → bit_in (meaning_of l').registers j i ≡ cond (eqb y.index j && eqb y.bit i) (some y) none
      new j i h = ap (λ (ys : List N.RegisterBit). bit_in ys j i) e ∙ find_last (λ z. eqb z.index j && eqb z.bit i) y (meaning_of l).registers h

      old : (j i : ℕ) (z : R.Register) → i < b j → get_elem? m.registers j ≡ some z → Found (bit_in (meaning_of l').registers j i) (SameBit m l' t i z)
      old j i z h p =
          let f = c.made j i z h p in
          record {
            value = f.value;
            is = ap (λ (ys : List N.RegisterBit). bit_in ys j i) e ∙ find_old (λ z. eqb z.index j && eqb z.bit i) y (meaning_of l).registers f.value f.is;
            holds = bit_later m a more_refl i z f.value f.holds;
          }

      here : (j i : ℕ) (z : R.Register) → j ≡ k → i ≡ b k → get_elem? m.registers j ≡ some z → Found (bit_in (meaning_of l').registers j i) (SameBit m l' t i z)
      here j i z d f p =
          let w : r ≡ z = some_eq (sym q ∙ ap (get_elem? m.registers) (sym d) ∙ p) in
          record {
            value = y;
            is = new j i (c.rest j i (rw (d, f) (omega arith))) ∙ rw (eq-eqb y.index j (n ∙ sym d), eq-eqb y.bit i (o ∙ sym f));
            holds = rw (← w, f) s;
          }

      made : (j i : ℕ) (z : R.Register) → Dec (j ≡ k) → Dec (i ≡ b k) → i < cond (eqb j k) (suc (b k)) (b j) → get_elem? m.registers j ≡ some z
          → Found (bit_in (meaning_of l').registers j i) (SameBit m l' t i z)
      made j i z (yes d) (yes f) h p = here j i z d f p
      made j i z (yes d) (no f) h p =
          let g : i < suc (b k) = rw (eq-eqb j k d) at h in
          old j i z (rw d (omega arith)) p
      made j i z (no d) f h p = old j i z (rw (ne_eqb j k d) at h) p

      rest : (j i : ℕ) → Dec (j ≡ k) → cond (eqb j k) (suc (b k)) (b j) ≤ i → bit_in (meaning_of l').registers j i ≡ none
      rest j i (yes d) h =
          let g : suc (b k) ≤ i = rw (eq-eqb j k d) at h in
          new j i (c.rest j i (rw d (omega arith))) ∙ rw (eq-eqb y.index j (n ∙ sym d), ne_eqb y.bit i (λ f. omega arith))
      rest j i (no d) h =
          new j i (c.rest j i (rw (ne_eqb j k d) at h)) ∙ rw (ne_eqb y.index j (λ f. d (sym f ∙ n)))

  pub one_output : (p : ℕ) (y : N.OutPort) → dir_of m p ≡ R.Output → y.signal ≡ p → NetsGive l' t y.nets (λ v. tab (signal_width m p) (v p))
      → (meaning_of l').outputs ≡ (meaning_of l).outputs ++ (y ∷ []) → Outputs m l t p → Outputs m l' t (suc p)
  one_output p y q n s e c = record {
    made = λ j h z. made j h z (ℕ_discrete j p);
    rest = λ j h. ap (λ (ys : List N.OutPort). port_in ys j) e ∙ find_last (λ z. eqb z.signal j) y (meaning_of l).outputs (c.rest j (λ x. h (omega arith, x.1)))
        ∙ rw (ne_eqb y.signal j (λ f. h (omega arith, rw (sym f ∙ n) q)));
  }
    where
      made : (j : ℕ) → j < suc p → dir_of m j ≡ R.Output → Dec (j ≡ p) → Found (port_in (meaning_of l').outputs j) (λ o. NetsGive l' t o.nets (λ v. tab (signal_width m j) (v j)))
      made j h z (yes d) = record {
        value = y;
        is = ap (λ (ys : List N.OutPort). port_in ys j) e ∙ find_last (λ z. eqb z.signal j) y (meaning_of l).outputs (c.rest j (λ x. omega arith))
            ∙ rw (eq-eqb y.signal j (n ∙ sym d));
        holds = rw d s;
      }
      made j h z (no d) =
          let f = c.made j (omega arith) z in
          record {
            value = f.value;
            is = ap (λ (ys : List N.OutPort). port_in ys j) e ∙ find_old (λ z. eqb z.signal j) y (meaning_of l).outputs f.value f.is;
            holds = holds_later a more_refl f.holds;
          }
