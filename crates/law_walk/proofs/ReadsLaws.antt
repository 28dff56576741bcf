-- What is proved of specs/Reads: What is asked before something is lowered, what is there after it, and that the nets read back have the bits meant. Assumes nothing.
use Rattle.std.specs.Prelude.{◌≡◌, Bool, false, length, take, drop}
use Rattle.std.proofs.Math.Path.{refl, ap}
use Rattle.std.proofs.Common.{sym, ◌∙◌, inl, inr, add-zero, arith}
use Rattle.std.proofs.Math.Bool.{true}
use mathlib.Core.List.{List, [], ◌∷◌}
use Rattle.std.proofs.Math.Option.{Option, none, some}
use Prim.Native.Nat.{ℕ, zero, suc, ◌+◌, ◌-◌, ◌≤◌, ◌<◌}
use Rattle.std.proofs.Math.ListN.{get_or}
use Rattle.spec_rtl.specs.Ops.{slice_w, tab}
use Rattle.spec_rtl.specs.Rtl.{Module, word}
use Rattle.spec_model.specs.Words.{absent}
use Rattle.spec_model.specs.Builder.{constant_value, is_value, from}
use Rattle.spec_model.specs.Ranges.{width_at}
use Rattle.spec_model.specs.Lowering.{selected, whole_net, nets_of, State, Need, Range, Step, Always, Unless, cell, whole, whole_nets, range_nets, range_by, range_known, all_some, signal_bit, signal_net, signal_nets, signal_steps, wholes}
use Rattle.word_laws.specs.Shift.{tab_ext}
use Rattle.word_laws.specs.Widths.{Formed, word_width}
use Rattle.law_nets.specs.Meaning.{net_value}
use Rattle.law_nets.specs.Sound.{count, Sound, Later}
use Rattle.law_nets.specs.Nodes.{constant_there, constant_grew}
use Rattle.law_walk.specs.Tables.{none_some, Has, Known, row_slice, row_below, all_known}
use Rattle.law_walk.specs.Kept.{NetsGive, Held, Inv}
use Rattle.law_walk.specs.Writes.{holds_length}
use Rattle.law_walk.specs.Reads.{After, AllAfter, StepAfter, holds_append, holds_as, holds_nil, holds_slice, net_same}

module _ (st : State) (q : Sound st.netlist) where
  net_whole : (c : ℕ) → whole_net st c 0 < count st.netlist → Has (whole st c)
  unfolding whole_net whole_nets
  net_whole c h = go (whole st c) refl h
    where
      go : (o : Option (List ℕ)) → whole st c ≡ o → get_or (nets_of o) 0 absent < count st.netlist → Has (whole st c)
      go none e h = absurd (omega (arith, q.few, q.small))
      go (some ns) e h = record { value = ns; is = e }

  pub selected_stays : (st' : State) → Later st.netlist st'.netlist → ((e : ℕ) (ns : List ℕ) → whole st e ≡ some ns → whole st' e ≡ some ns)
      → (ob : Bool) (c : ℕ) (b : Bool) → selected ob st c ≡ some b → selected ob st' c ≡ some b
  selected_stays st' a k false c b e = absurd (none_some e)
  selected_stays st' a k true c b e =
      let t = constant_there st.netlist (whole_net st c 0) b e in
      let w = net_whole c t in
      ap (constant_value st'.netlist) (sym (net_same st st' c w.value w.is (k c w.value w.is))) ∙ constant_grew a.grew (whole_net st c 0) t ∙ e

  pub step_stays : (st' : State) → Later st.netlist st'.netlist → ((e : ℕ) (ns : List ℕ) → whole st e ≡ some ns → whole st' e ≡ some ns)
      → ((n : Need) → After st n → After st' n) → (ob : Bool) (s : Step) → StepAfter ob st s → StepAfter ob st' s
  step_stays st' a k f ob (Always n) h = f n h
  step_stays st' a k f ob (Unless c v n) (inr h) = inr (f n h)
  step_stays st' a k f ob (Unless c v n) (inl h) = inl (go (selected ob st c) refl h)
    where
      go : (o : Option Bool) → selected ob st c ≡ o → is_value v o ≡ true → is_value v (selected ob st' c) ≡ true
      go none e h = let z : ◌≡◌ {A = ℕ} 0 1 = cc in absurd (omega arith)
      go (some b) e h = rw (selected_stays st' a k ob c b e) h

module _ (m : Module) (st : State) (i : Inv m st) where
  -- ---- expressions ----

  pub read_whole : (e : ℕ) → Has (whole st e) → NetsGive st.netlist st.signal_bits (whole_nets st e) (λ v. word m.exprs v e)
  unfolding whole_nets
  read_whole e h = rw h.is (i.wholes e h.value h.is)

  module _ (f : Formed m.exprs) where
    pub whole_length : (e : ℕ) → e < length m.exprs → Has (whole st e) → length (whole_nets st e) ≡ width_at m.exprs e
    whole_length e b h = holds_length i.sound (read_whole e h) (width_at m.exprs e) (λ v. word_width m.exprs f v e b)

    pub read_range : (e lsb w : ℕ) → e < length m.exprs → lsb + w ≤ width_at m.exprs e → After st (Range e lsb w)
        → NetsGive st.netlist st.signal_bits (range_nets st e lsb w) (λ v. slice_w lsb w (word m.exprs v e))
    unfolding range_nets
    read_range e lsb w b k h = go (whole st e) refl
      where
        known : whole st e ≡ none → Known (get_or st.expression_ranges e []) lsb w
        known q = record { known = λ j x y. rw q at (h j x y) }

        go : (o : Option (List ℕ)) → whole st e ≡ o → NetsGive st.netlist st.signal_bits (range_by o st e lsb w) (λ v. slice_w lsb w (word m.exprs v e))
        go (some ns) q = holds_slice lsb w (i.wholes e ns q)
        go none q =
            let n = i.cells e b q in
            record {
              there = row_below (count st.netlist) (get_or st.expression_ranges e []) lsb w (omega arith) (known q) (i.ranges e).there;
              holds = λ x a s c v g. row_slice (net_value x s c) (get_or st.expression_ranges e []) (word m.exprs v e)
                  (n ∙ sym (word_width m.exprs f v e b)) lsb w (omega arith) (known q) ((i.ranges e).holds x a s c v g);
            }

    pub known_after : (e lsb w : ℕ) → e < length m.exprs → lsb + w ≤ width_at m.exprs e → range_known st e lsb w ≡ true → After st (Range e lsb w)
    unfolding range_known
    known_after e lsb w b k q = go (whole st e) refl
      where
        go : (o : Option (List ℕ)) → whole st e ≡ o → (j : ℕ) → lsb ≤ j → j < lsb + w → Held st e j
        go (some ns) r j x y = rw r tt
        go none r j x y =
            let a : all_some (take w (drop lsb (get_or st.expression_ranges e []))) ≡ true = rw r at q in
            let n = i.cells e b r in
            rw r ((all_known (get_or st.expression_ranges e []) lsb w (omega arith) a).known j x y)

    pub whole_after : (e lsb w : ℕ) → Has (whole st e) → After st (Range e lsb w)
    whole_after e lsb w h b x y = rw h.is tt

  -- ---- signals ----

  pub read_bit : (s b : ℕ) → Has (cell none st.signal_bits s b) → NetsGive st.netlist st.signal_bits (signal_net st s b ∷ []) (λ v. v s b ∷ [])
  unfolding signal_net signal_bit
  read_bit s b h = rw h.is (record {
    there = (i.nets s b h.value h.is, tt);
    holds = λ x a y c v g. rw (g.at s b h.value h.is);
  })

  pub read_bits : (ob : Bool) (s b w : ℕ) → AllAfter ob st (signal_steps s b w) → NetsGive st.netlist st.signal_bits (signal_nets st s b w) (λ v. tab w (λ j. v s (b + j)))
  unfolding signal_steps signal_nets from
  read_bits ob s b zero h = holds_nil
  read_bits ob s b (suc w) h =
      let r = read_bits ob s (suc b) w h.1 in
      holds_as (holds_append (read_bit s b h.0) r)
      (λ v. rw (add-zero b) (ap (λ (x : List Bool). v s b ∷ x) (tab_ext w _ _ (λ j _. ap (v s) {x = suc b + j} {y = b + suc j} (omega arith)))))
