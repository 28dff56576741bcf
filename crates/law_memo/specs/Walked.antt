-- The walk, whatever it lowers, keeps the state steady, and no bit's net changes. Assumes nothing.
use Rattle.std.specs.Prelude.{◌≡◌, Bool}
use Rattle.std.proofs.Math.Path.{refl}
use Rattle.std.proofs.Common.{sym, subst, ◌∙◌, true≢false, arith}
use Rattle.std.proofs.Math.Bool.{true, false}
use mathlib.Core.List.{List, [], ◌∷◌}
use Rattle.std.proofs.Math.Option.{Option, none, some}
use Prim.Native.Nat.{ℕ, zero, suc, ◌+◌, ◌≤◌, ◌<◌}
use Rattle.std.proofs.Math.ListN.{length}
use Rattle.spec_rtl.specs.Ops.{slice_w}
use Rattle.spec_rtl.specs.Rtl as R
use Rattle.spec_rtl.specs.Rtl.{Module, Kind, word}
use Rattle.spec_model.specs.Words.{Netlist}
use Rattle.spec_model.specs.Builder.{Out, refused, done, and_then, Made, is_value}
use Rattle.spec_model.specs.Ranges.{expr_at, width_at, class_of, Gate}
use Rattle.spec_model.specs.Lowering.{State, Need, Bit, Whole, Range, Step, Always, Unless, cell, whole, with_netlist, set_whole, set_range, set_signal_bit, mark, signal_bit, signal_width, selected, unless, driven_by, driven_net, given, gate_of, range_nets, range_gate, gate_steps, whole_steps, range_steps_of, kind_range_steps, range_kind, range_known, build_whole, build_range, lower_steps, driver_of, drive, resolve_signal_bit, keep_whole, lower_expression, keep_range, lower_expression_range, lower_need}
use Rattle.word_laws.specs.Values.{slice_wide}
use Rattle.word_laws.specs.Widths.{word_width}
use Rattle.law_nets.specs.Run.{Meets, meets_map}
use Rattle.law_walk.specs.Tables.{none_some, Has}
use Rattle.law_walk.specs.Good.{Good}
use Rattle.law_walk.specs.Kept.{Any, Inv, NetsGive, Walks, Makes}
use Rattle.law_walk.specs.Writes.{holds_length, inv_netlist, inv_whole, inv_range, inv_mark, marked, bit_more}
use Rattle.law_walk.specs.Reads.{Asked, After, AllAsked, AllAfter}
use Rattle.law_walk.proofs.Wholes.{whole_made}
use Rattle.law_walk.proofs.Parts.{range_made}
use Rattle.law_walk.specs.Walk.{whole_asked, range_asked, Assigned}
use Rattle.law_walk.proofs.Walk.{Lowers, steps_walk, need_walk, assigned}
use Rattle.law_phases.specs.Supply.{supply}
use Rattle.law_repeats.specs.Again.{Stays, stays_refl}
use Rattle.law_memo.specs.Along.{Along}
use Rattle.law_memo.specs.Derived.{only_whole, gateless}
use Rattle.law_memo.specs.Built.{Derives}
use Rattle.law_memo.specs.Kinds.{whole_derived, range_derived}
use Rattle.law_memo.specs.Steady.{Onward, DerivedAt, Steady, Keeps, keeps_refl, keeps_trans, same_keeps, whole_keeps, known_keeps, range_keeps}

-- ---- the kinds that are lowered only as a whole ----

module _ (xs : List R.Expr) (ob : Bool) (st : State) (e lsb w v : ℕ) where
  -- a range of one has the whole lowered
  only_steps : (k : Kind) → only_whole k ≡ true → AllAfter ob st (kind_range_steps xs e lsb w k) → Has (whole st e)
  only_steps (R.Signal s l) q h = absurd (true≢false (sym q))
  only_steps (R.Constant n) q h = absurd (true≢false (sym q))
  only_steps (R.Un R.BitNot a) q h = absurd (true≢false (sym q))
  only_steps (R.Un R.LogicNot a) q h = h.0
  only_steps (R.Un R.ReduceOr a) q h = h.0
  only_steps (R.Un R.ReduceAnd a) q h = h.0
  only_steps (R.Un R.ReduceXor a) q h = h.0
  only_steps (R.Bin op a b) q h = go (gate_of (class_of op)) q h
    where
      go : (g : Option Gate) → gateless g ≡ true → AllAfter ob st (gate_steps g e a b lsb w) → Has (whole st e)
      go none q h = h.0
      go (some g) q h = absurd (true≢false (sym q))
  only_steps (R.Mux c t d) q h = absurd (true≢false (sym q))
  only_steps (R.Concat ps) q h = absurd (true≢false (sym q))
  only_steps (R.Slice a l) q h = absurd (true≢false (sym q))

  -- and makes nothing more
  pub only_built : (k : Kind) → only_whole k ≡ true → range_kind xs ob st e lsb w v k ≡ given st (range_nets st e lsb w)
  only_built (R.Signal s l) q = absurd (true≢false (sym q))
  only_built (R.Constant n) q = absurd (true≢false (sym q))
  only_built (R.Un R.BitNot a) q = absurd (true≢false (sym q))
  only_built (R.Un R.LogicNot a) q = refl
  only_built (R.Un R.ReduceOr a) q = refl
  only_built (R.Un R.ReduceAnd a) q = refl
  only_built (R.Un R.ReduceXor a) q = refl
  only_built (R.Bin op a b) q = go (gate_of (class_of op)) q
    where
      go : (g : Option Gate) → gateless g ≡ true → range_gate g st e a b lsb w ≡ given st (range_nets st e lsb w)
      go none q = refl
      go (some g) q = absurd (true≢false (sym q))
  only_built (R.Mux c t d) q = absurd (true≢false (sym q))
  only_built (R.Concat ps) q = absurd (true≢false (sym q))
  only_built (R.Slice a l) q = absurd (true≢false (sym q))

marked_free : (st : State) (p b : ℕ) → cell none st.signal_bits p b ≡ none → cell none (mark st p b).signal_bits p b ≡ none
unfolding mark
marked_free st p b h = h

module _ (m : Module) (good : Good m) (ob : Bool) where
  abbrev pub IsSteady : State → Type 0
  IsSteady st = Steady m good.exprs ob st

  abbrev pub IsKept : State → State → Type 0
  IsKept st st' = Keeps m good.exprs ob st st'

  abbrev pub Keep : (Need → State → Out State) → Type 0
  Keep rec = (n : Need) (st : State) → Inv m st → IsSteady st → Asked m n → Meets Any (IsKept st) (rec n st)

  -- from an earlier state on
  from_earlier : (st st₁ : State) (o : Out State) → Onward st st₁ → Meets Any (IsKept st₁) o → Meets Any (IsKept st) o
  from_earlier st st₁ (refused n x y) a h = tt
  from_earlier st st₁ (done st₂) a h = keeps_trans m good.exprs ob a h

  keep_bind : (st : State) (P : State → Type 0) (o : Out State) (k : State → Out State) → Walks m st P o → Meets Any (IsKept st) o
      → ((st₁ : State) → Inv m st₁ → P st₁ → IsSteady st₁ → Meets Any (IsKept st₁) (k st₁)) → Meets Any (IsKept st) (and_then o k)
  keep_bind st P (refused n x y) k w h g = tt
  keep_bind st P (done st₁) k w h g = from_earlier st st₁ (k st₁) h.onward (g st₁ w.walks.inv w.walks.post h.steady)

  pub steps_keep : (rec : Need → State → Out State) → Lowers supply m good ob rec → Keep rec → (ss : List Step) (st : State) → Inv m st → IsSteady st → AllAsked m ss
      → Meets Any (IsKept st) (lower_steps rec ob ss st)
  unfolding lower_steps
  steps_keep rec spec keep [] st i s h = keeps_refl m good.exprs ob s
  steps_keep rec spec keep (Always n ∷ ss) st i s h =
      keep_bind st (λ st'. After st' n) (rec n st) _ (spec n st i h.0) (keep n st i s h.0) (λ st₁ i₁ p s₁. steps_keep rec spec keep ss st₁ i₁ s₁ h.1)
  steps_keep rec spec keep (Unless c v n ∷ ss) st i s h =
      skip (is_value v (selected ob st c)) (steps_keep rec spec keep ss st i s h.1) (λ st₁ i₁ s₁. steps_keep rec spec keep ss st₁ i₁ s₁ h.1)
    where
      skip : (t : Bool) → Meets Any (IsKept st) (lower_steps rec ob ss st) → ((st₁ : State) → Inv m st₁ → IsSteady st₁ → Meets Any (IsKept st₁) (lower_steps rec ob ss st₁))
          → Meets Any (IsKept st) (and_then (unless t rec n st) (λ st₁. lower_steps rec ob ss st₁))
      skip true a g = a
      skip false a g = keep_bind st (λ st'. After st' n) (rec n st) _ (spec n st i h.0) (keep n st i s h.0) (λ st₁ i₁ p s₁. g st₁ i₁ s₁)

  -- ---- what is kept of an expression ----

  module _ (st : State) (i : Inv m st) (s : IsSteady st) (e : ℕ) (here : e < length m.exprs) where
    whole_kept : AllAfter ob st (whole_steps m.exprs e) → Meets Any (IsKept st) (keep_whole st e (build_whole m.exprs ob st e))
    unfolding keep_whole
    whole_kept h =
        go (build_whole m.exprs ob st e) (whole_made supply m good.exprs ob st i e here h) (whole_derived m good.exprs ob st i e here h)
      where
        go : (o : Made (List ℕ)) → Makes st.netlist (λ ns l. NetsGive l st.signal_bits ns (λ v. word m.exprs v e)) o
            → Meets Any (Derives m good.exprs ob st i (expr_at m.exprs e).kind e 0) o → Meets Any (IsKept st) (and_then o (λ (ns, l). done (set_whole (with_netlist st l) e ns)))
        go (refused n x y) a d = tt
        go (done r) a d =
            let k = a.makes in
            let i₁ = inv_netlist m st r.1 i k.later in
            whole_keeps m good.exprs ob st r.1 e r.0 i i₁ (inv_whole m (with_netlist st r.1) e r.0 i₁ here k.post) here s d.0 d.1

    module _ (lsb w : ℕ) (fits : lsb + w ≤ width_at m.exprs e) where
      -- over a later netlist, and derived where they are kept
      abbrev pub Ranged : List ℕ × Netlist → Type 0
      Ranged r = Stays st.netlist r.1 × (only_whole (expr_at m.exprs e).kind ≡ false → Along (DerivedAt m good.exprs ob r.1 st e) lsb r.0)

      built : only_whole (expr_at m.exprs e).kind ≡ true → build_range m.exprs ob st e lsb w ≡ given st (range_nets st e lsb w)
      unfolding build_range
      built q = only_built m.exprs ob st e lsb w (width_at m.exprs e) (expr_at m.exprs e).kind q

      pub stepped : only_whole (expr_at m.exprs e).kind ≡ true → AllAfter ob st (range_steps_of m.exprs e lsb w) → Has (whole st e)
      unfolding range_steps_of
      stepped q h = only_steps m.exprs ob st e lsb w (width_at m.exprs e) (expr_at m.exprs e).kind q h

      pub ranged : AllAfter ob st (range_steps_of m.exprs e lsb w) → Meets Any Ranged (build_range m.exprs ob st e lsb w)
      ranged h = go (only_whole (expr_at m.exprs e).kind) refl
        where
          go : (t : Bool) → only_whole (expr_at m.exprs e).kind ≡ t → Meets Any Ranged (build_range m.exprs ob st e lsb w)
          go true q = subst (Meets Any Ranged) (sym (built q)) (stays_refl st.netlist, λ z. absurd (true≢false (sym q ∙ z)))
          go false q = meets_map Any Any _ _ (build_range m.exprs ob st e lsb w) (range_derived m good.exprs ob st i e here lsb w fits q h) (λ n x y a. a) (λ r d. (d.0, λ z. d.1))

      range_kept : AllAfter ob st (range_steps_of m.exprs e lsb w) → Meets Any (IsKept st) (keep_range st e lsb (build_range m.exprs ob st e lsb w))
      unfolding keep_range
      range_kept h =
          go (build_range m.exprs ob st e lsb w) (range_made supply m good.exprs ob st i e lsb w here fits h) (ranged h)
        where
          at : (ns : List ℕ) (l : Netlist) → Inv m (with_netlist st l) → Inv m (set_range (with_netlist st l) e lsb ns) → lsb + length ns ≤ width_at m.exprs e → Stays st.netlist l
              → (only_whole (expr_at m.exprs e).kind ≡ false → Along (DerivedAt m good.exprs ob l st e) lsb ns)
              → (o : Option (List ℕ)) → whole st e ≡ o → (t : Bool) → only_whole (expr_at m.exprs e).kind ≡ t → IsKept st (set_range (with_netlist st l) e lsb ns)
          at ns l i₁ i' ok z new (some ks) q t c = known_keeps m good.exprs ob st l e lsb ns i i₁ i' here ok s z ks q
          at ns l i₁ i' ok z new none q true c = absurd (none_some (sym q ∙ (stepped c h).is))
          at ns l i₁ i' ok z new none q false c = range_keeps m good.exprs ob st l e lsb ns i i₁ i' here ok s z q c (new c)

          go : (o : Made (List ℕ)) → Makes st.netlist (λ ns l. NetsGive l st.signal_bits ns (λ v. slice_w lsb w (word m.exprs v e))) o → Meets Any Ranged o
              → Meets Any (IsKept st) (and_then o (λ (ns, l). done (set_range (with_netlist st l) e lsb ns)))
          go (refused n x y) a d = tt
          go (done r) a d =
              let k = a.makes in
              let i₁ = inv_netlist m st r.1 i k.later in
              let n : length r.0 ≡ w = holds_length k.later.sound k.post w
              (λ v. slice_wide lsb w (word m.exprs v e) (omega (arith, word_width m.exprs good.exprs v e here))) in
              let ok : lsb + length r.0 ≤ width_at m.exprs e = omega arith in
              at r.0 r.1 i₁ (inv_range m (with_netlist st r.1) e lsb r.0 i₁ good.exprs here ok (rw n k.post)) ok d.0 d.1 (whole st e) refl
              (only_whole (expr_at m.exprs e).kind) refl

  -- ---- a signal's bit ----

  bit_kept : (st : State) → Inv m st → IsSteady st → (p b n : ℕ) → p < length m.signals → b < signal_width m p → cell none st.signal_bits p b ≡ none
      → Inv m (set_signal_bit st p b n) → IsKept st (set_signal_bit st p b n)
  unfolding signal_bit set_signal_bit
  bit_kept st i s p b n here inside free i' =
      same_keeps m good.exprs ob st (set_signal_bit st p b n) i i' s (stays_refl st.netlist) (bit_more m st p b n i here inside free).more refl refl

  pub driven_asked : (o : Bool) (s b e k : ℕ) → Assigned m s b e k → Asked m (driven_by o e k)
  driven_asked false s b e k a = a.value
  driven_asked true s b e k a = (a.value, omega (arith, a.bit))

  pub mark_kept : (st : State) → Inv m st → IsSteady st → (p b : ℕ) → IsKept st (mark st p b)
  unfolding signal_bit mark
  mark_kept st i s p b = same_keeps m good.exprs ob st (mark st p b) i (inv_mark m st p b i) s (stays_refl st.netlist) (λ q j n h. h) refl refl

  module _ (rec : Need → State → Out State) (spec : Lowers supply m good ob rec) (keep : Keep rec) (st : State) (i : Inv m st) (s : IsSteady st) where
    -- the driver's net is taken; w: what is known of the state at the end
    drive_kept : (p b : ℕ) (d : ℕ × ℕ) → cell none st.signal_bits p b ≡ none → Assigned m p b d.0 d.1
        → Walks m st (λ st'. After st' (Bit p b)) (drive rec ob p b d.0 d.1 st) → Meets Any (IsKept st) (drive rec ob p b d.0 d.1 st)
    unfolding drive
    drive_kept p b d free a w =
        go (rec (driven_by ob d.0 d.1) (mark st p b)) (spec (driven_by ob d.0 d.1) (mark st p b) (inv_mark m st p b i) (driven_asked ob p b d.0 d.1 a))
        (keep (driven_by ob d.0 d.1) (mark st p b) (inv_mark m st p b i) (mark_kept st i s p b).steady (driven_asked ob p b d.0 d.1 a)) w
      where
        free_there : cell none (mark st p b).signal_bits p b ≡ none
        free_there = marked_free st p b free

        go : (o : Out State) → Walks m (mark st p b) (λ st'. After st' (driven_by ob d.0 d.1)) o → Meets Any (IsKept (mark st p b)) o
            → Walks m st (λ st'. After st' (Bit p b)) (and_then o (λ st₁. done (set_signal_bit st₁ p b (driven_net ob st₁ d.0 d.1))))
            → Meets Any (IsKept st) (and_then o (λ st₁. done (set_signal_bit st₁ p b (driven_net ob st₁ d.0 d.1))))
        go (refused n x y) u h w = tt
        go (done st₁) u h w =
            let fr : cell none st₁.signal_bits p b ≡ none = u.walks.grew.framed.bits p b (marked m st p b i a.here a.inside) ∙ free_there in
            keeps_trans m good.exprs ob (mark_kept st i s p b).onward (keeps_trans m good.exprs ob h.onward
            (bit_kept st₁ u.walks.inv h.steady p b (driven_net ob st₁ d.0 d.1) a.here a.inside fr w.walks.inv))

    resolve_kept : (p b : ℕ) → Walks m st (λ st'. After st' (Bit p b)) (resolve_signal_bit rec m ob p b st) → Meets Any (IsKept st) (resolve_signal_bit rec m ob p b st)
    unfolding resolve_signal_bit signal_bit
    resolve_kept p b w = go (cell none st.signal_bits p b) refl (driver_of m p b) refl (cell false st.resolving p b) refl w
      where
        go : (o : Option ℕ) → cell none st.signal_bits p b ≡ o → (q : Option (ℕ × ℕ)) → driver_of m p b ≡ q → (t : Bool) → cell false st.resolving p b ≡ t
            → Walks m st (λ st'. After st' (Bit p b)) (elim o [
              | some n ↦ done st
              | none ↦ elim q [
                | none ↦ refused 6 p b
                | some d ↦ elim t [ true ↦ refused 7 p b | false ↦ drive rec ob p b d.0 d.1 st ]
              ]
            ])
            → Meets Any (IsKept st) (elim o [
              | some n ↦ done st
              | none ↦ elim q [
                | none ↦ refused 6 p b
                | some d ↦ elim t [ true ↦ refused 7 p b | false ↦ drive rec ob p b d.0 d.1 st ]
              ]
            ])
        go (some n) e q g t z w = keeps_refl m good.exprs ob s
        go none e none g t z w = tt
        go none e (some d) g true z w = tt
        go none e (some d) g false z w = drive_kept p b d e (assigned m p b good d g) w

    -- ---- an expression, a range of it ----

    expression_kept : (e : ℕ) → e < length m.exprs → Meets Any (IsKept st) (lower_expression rec m ob e st)
    unfolding lower_expression
    expression_kept e here = go (whole st e) refl
      where
        go : (o : Option (List ℕ)) → whole st e ≡ o → Meets Any (IsKept st) (elim o [
          | some ns ↦ done st
          | none ↦ and_then (lower_steps rec ob (whole_steps m.exprs e) st) (λ st₁. keep_whole st₁ e (build_whole m.exprs ob st₁ e))
        ])
        go (some ns) q = keeps_refl m good.exprs ob s
        go none q = keep_bind st (λ st'. AllAfter ob st' (whole_steps m.exprs e)) (lower_steps rec ob (whole_steps m.exprs e) st) _
            (steps_walk supply m good ob rec spec (whole_steps m.exprs e) st i (whole_asked m good.exprs e here))
            (steps_keep rec spec keep (whole_steps m.exprs e) st i s (whole_asked m good.exprs e here))
            (λ st₁ i₁ p s₁. whole_kept st₁ i₁ s₁ e here p)

    range_kept_of : (e lsb w : ℕ) → e < length m.exprs → lsb + w ≤ width_at m.exprs e → Meets Any (IsKept st) (lower_expression_range rec m ob e lsb w st)
    unfolding lower_expression_range
    range_kept_of e lsb w here fits = go (range_known st e lsb w) refl
      where
        go : (t : Bool) → range_known st e lsb w ≡ t → Meets Any (IsKept st) (elim t [
          | true ↦ done st
          | false ↦ and_then (lower_steps rec ob (range_steps_of m.exprs e lsb w) st) (λ st₁. keep_range st₁ e lsb (build_range m.exprs ob st₁ e lsb w))
        ])
        go true q = keeps_refl m good.exprs ob s
        go false q = keep_bind st (λ st'. AllAfter ob st' (range_steps_of m.exprs e lsb w)) (lower_steps rec ob (range_steps_of m.exprs e lsb w) st) _
            (steps_walk supply m good ob rec spec (range_steps_of m.exprs e lsb w) st i (range_asked m good.exprs e here lsb w fits))
            (steps_keep rec spec keep (range_steps_of m.exprs e lsb w) st i s (range_asked m good.exprs e here lsb w fits))
            (λ st₁ i₁ p s₁. range_kept st₁ i₁ s₁ e here lsb w fits p)

  -- ---- all of it ----

  pub need_keep : (f : ℕ) → Keep (lower_need f m ob)
  unfolding lower_need
  need_keep zero n st i s h = tt
  need_keep (suc f) (Bit p b) st i s h =
      resolve_kept (λ n' st'. lower_need f m ob n' st') (need_walk supply m good ob f) (need_keep f) st i s p b (need_walk supply m good ob (suc f) (Bit p b) st i h)
  need_keep (suc f) (Whole e) st i s h = expression_kept (λ n' st'. lower_need f m ob n' st') (need_walk supply m good ob f) (need_keep f) st i s e h
  need_keep (suc f) (Range e lsb w) st i s h = range_kept_of (λ n' st'. lower_need f m ob n' st') (need_walk supply m good ob f) (need_keep f) st i s e lsb w h.0 h.1
