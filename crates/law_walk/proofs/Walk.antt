-- What is proved of specs/Walk: The walk: one step of it from what is lowered below, then all of it by induction on the bound. Assumes nothing.
use Rattle.law_walk.specs.Walk.{range_asked}
use Rattle.std.specs.Prelude.{◌≡◌, Bool, cond, ◌&&◌, eqb, leb, ltb, get_or}
use Rattle.std.proofs.Math.Path.{refl, ap}
use Rattle.std.proofs.Common.{sym, ◌∙◌, inl, eqb-true, leb-true, ltb-true}
use Rattle.std.proofs.Math.Logic.{inr}
use Rattle.std.proofs.Math.Bool.{true, false}
use mathlib.Core.List.{List, [], ◌∷◌}
use Rattle.std.proofs.Math.Option.{Option, none, some}
use Prim.Native.Nat.{ℕ, zero, suc, ◌+◌, ◌-◌, ◌≤◌, ◌<◌}
use native.Mathlib.Omega.{arith}
use Rattle.std.proofs.Math.ListN.{length, get_elem?}
use Rattle.spec_rtl.specs.Ops.{slice_w}
use Rattle.spec_rtl.specs.Rtl as R
use Rattle.spec_rtl.specs.Rtl.{Module, Assign, word, by_assign, by_memory, by_register_of, by_dir, of_port, driver, dir_of}
use Rattle.spec_model.specs.Words.{absent}
use Rattle.spec_model.specs.Builder.{Out, refused, done, and_then, Made, is_value}
use Rattle.spec_model.specs.Ranges.{width_at}
use Rattle.spec_model.specs.Lowering.{selected, unless, driven_by, driven_net, range_nets, State, Need, Bit, Whole, Range, Step, Always, Unless, cell, whole, whole_nets, whole_net, with_netlist, set_signal_bit, mark, signal_bit, signal_width, range_known, wholes, whole_steps, range_steps_of, build_whole, build_range, lower_steps, expr_driver, driver_of, drive, resolve_signal_bit, keep_whole, lower_expression, keep_range, lower_expression_range, lower_by, lower_need, plenty, lower_all}
use Rattle.word_laws.specs.Values.{slice_wide}
use Rattle.word_laws.specs.Widths.{word_width}
use Rattle.law_walk.specs.Tables.{none_some, some_eq}
use Rattle.law_walk.specs.Good.{Good, GoodAssign, Undriven}
use Rattle.law_walk.specs.Kept.{Grew, NetsGive, Inv, grew_refl, grew_trans, Walks, walks_refused, walks_done, walks_map, walks_bind, Makes}
use Rattle.law_walk.specs.Writes.{holds_length, inv_netlist, grew_netlist, inv_whole, grew_whole, has_whole, inv_range, grew_range, has_range, inv_mark, marked, inv_bit, grew_bit, has_bit}
use Rattle.law_walk.specs.Reads.{StepAfter, holds_as, Asked, After, after_grew, AllAsked, AllAfter}
use Rattle.law_walk.proofs.ReadsLaws.{read_range, whole_length, known_after}
use Rattle.law_walk.proofs.ReadsLaws.{step_stays, read_whole}
use Rattle.law_walk.specs.Gates.{Gates}
use Rattle.law_walk.proofs.Wholes.{whole_made}
use Rattle.law_walk.proofs.Parts.{range_made}
use Rattle.law_walk.specs.Walk.{Assigned, first_of, head_eq, one_of, whole_asked}

module _ (m : Module) (s b : ℕ) where
  by_assign_law : (xs : List Assign) → ((k : ℕ) (a : Assign) → get_elem? xs k ≡ some a → GoodAssign m a) → (d : ℕ × ℕ) → expr_driver (by_assign xs s b) ≡ some d
      → (s < length m.signals) × (b < signal_width m s) × (d.0 < length m.exprs) × (d.1 < width_at m.exprs d.0) × Undriven m s
      × (by_assign xs s b ≡ R.FromExpr d.0 d.1)
  by_assign_law [] g d q = absurd (none_some q)
  by_assign_law (a ∷ xs) g d q =
      go (eqb a.signal s) refl (leb a.lsb b) refl (ltb b (a.lsb + a.width)) refl (by_assign_law xs (λ k x e. g (suc k) x e) d) q
    where
      go : (x : Bool) → eqb a.signal s ≡ x → (y : Bool) → leb a.lsb b ≡ y → (z : Bool) → ltb b (a.lsb + a.width) ≡ z
          → (expr_driver (by_assign xs s b) ≡ some d → (s < length m.signals) × (b < signal_width m s) × (d.0 < length m.exprs) × (d.1 < width_at m.exprs d.0) × Undriven m s
          × (by_assign xs s b ≡ R.FromExpr d.0 d.1))
          → expr_driver (cond (x && y && z) (R.FromExpr a.value (b - a.lsb)) (by_assign xs s b)) ≡ some d
          → (s < length m.signals) × (b < signal_width m s) × (d.0 < length m.exprs) × (d.1 < width_at m.exprs d.0) × Undriven m s
          × (cond (x && y && z) (R.FromExpr a.value (b - a.lsb)) (by_assign xs s b) ≡ R.FromExpr d.0 d.1)
      go true x true y true z r q =
          let e : ◌≡◌ {A = ℕ × ℕ} (a.value, b - a.lsb) d = some_eq q in
          let k = g 0 a refl in
          let p = eqb-true a.signal s x in
          let u = leb-true a.lsb b y in
          let w = ltb-true b (a.lsb + a.width) z in
          rw (← e) (rw (← p) k.inside, rw (← p) (omega (arith, k.fits)), k.value, rw k.wide (omega arith), rw (← p) k.undriven, refl)
      go true x true y false z r q = r q
      go true x false y z w r q = r q
      go false x y v z w r q = r q

  pub assigned : Good m → (d : ℕ × ℕ) → driver_of m s b ≡ some d → Assigned m s b d.0 d.1
  unfolding driver_of
  assigned g d q =
      let x = by_assign_law m.assigns g.assigns d q in
      record { here = x.0; inside = x.1; value = x.2; bit = x.3; undriven = x.4; by = x.5 }

  pub no_register : (k : ℕ) (rs : List R.Register) (d : R.Driver) → ((j : ℕ) (r : R.Register) → get_elem? rs j ≡ some r → r.target ≡ s → ⊥) → by_register_of k rs s d ≡ d
  no_register k [] d h = refl
  no_register k (r ∷ rs) d h = go (eqb r.target s) refl (no_register (suc k) rs d (λ j x e. h (suc j) x e))
    where
      go : (t : Bool) → eqb r.target s ≡ t → by_register_of (suc k) rs s d ≡ d → cond t (R.FromRegister k) (by_register_of (suc k) rs s d) ≡ d
      go true t e = absurd (h 0 r refl (eqb-true r.target s t))
      go false t e = e

  no_memory : (k : ℕ) (ms : List R.Memory) (d : R.Driver) → ((j : ℕ) (x : R.Memory) → get_elem? ms j ≡ some x → x.first.read_data ≡ s → ⊥)
      → ((j : ℕ) (x : R.Memory) (q : R.Port) → get_elem? ms j ≡ some x → x.second ≡ some q → q.read_data ≡ s → ⊥) → by_memory k ms s d ≡ d
  no_memory k [] d h g = refl
  no_memory k (x ∷ ms) d h g =
      go (eqb x.first.read_data s) refl x.second refl (no_memory (suc k) ms d (λ j y e. h (suc j) y e) (λ j y q e. g (suc j) y q e))
    where
      second : (q : R.Port) → x.second ≡ some q → (t : Bool) → eqb q.read_data s ≡ t → by_memory (suc k) ms s d ≡ d
          → cond t (R.FromData k true) (by_memory (suc k) ms s d) ≡ d
      second q e true t r = absurd (g 0 x q refl e (eqb-true q.read_data s t))
      second q e false t r = r

      go : (t : Bool) → eqb x.first.read_data s ≡ t → (o : Option R.Port) → x.second ≡ o → by_memory (suc k) ms s d ≡ d
          → cond t (R.FromData k false) (cond (of_port o s) (R.FromData k true) (by_memory (suc k) ms s d)) ≡ d
      go true t o e r = absurd (h 0 x refl (eqb-true x.first.read_data s t))
      go false t none e r = r
      go false t (some q) e r = second q e (eqb q.read_data s) refl r

  pub no_input_law : (x : R.Dir) (d : R.Driver) → (x ≡ R.Input → ⊥) → by_dir x d ≡ d
  no_input_law R.Internal d h = refl
  no_input_law R.Input d h = absurd (h refl)
  no_input_law R.Output d h = refl

  pub driver_by : Undriven m s → driver m s b ≡ by_assign m.assigns s b
  driver_by u = no_input_law (dir_of m s) _ u.input ∙ no_register 0 m.registers _ u.registers
      ∙ no_memory 0 m.memories (by_assign m.assigns s b) u.memories u.seconds

-- ---- one step ----

module _ (G : Gates) (m : Module) (good : Good m) (ob : Bool) where
  -- whatever is lowered, what was kept is kept, and it is there
  abbrev pub Lowers : (Need → State → Out State) → Type 0
  Lowers rec = (n : Need) (st : State) → Inv m st → Asked m n → Walks m st (λ st'. After st' n) (rec n st)

  step_grew : {st st' : State} → Inv m st → Grew st st' → (s : Step) → StepAfter ob st s → StepAfter ob st' s
  step_grew {st} {st'} i g s h = step_stays st i.sound st' g.later g.wholes (after_grew g) ob s h

  pub steps_walk : (rec : Need → State → Out State) → Lowers rec → (ss : List Step) (st : State) → Inv m st → AllAsked m ss
      → Walks m st (λ st'. AllAfter ob st' ss) (lower_steps rec ob ss st)
  unfolding lower_steps
  steps_walk rec spec [] st i h = walks_done i (grew_refl i) tt
  steps_walk rec spec (Always n ∷ ss) st i h = walks_bind (rec n st) _ (spec n st i h.0) (λ st₁ i₁ g₁ p₁.
      walks_map _ (steps_walk rec spec ss st₁ i₁ h.1) (λ st₂ i₂ g₂ p₂. (after_grew g₂ n p₁, p₂)))
  steps_walk rec spec (Unless c v n ∷ ss) st i h = walks_bind (unless (is_value v (selected ob st c)) rec n st) _ (skip (is_value v (selected ob st c)) refl) (λ st₁ i₁ g₁ p₁.
      walks_map _ (steps_walk rec spec ss st₁ i₁ h.1) (λ st₂ i₂ g₂ p₂. (step_grew i₁ g₂ (Unless c v n) p₁, p₂)))
    where
      skip : (t : Bool) → is_value v (selected ob st c) ≡ t → Walks m st (λ st'. StepAfter ob st' (Unless c v n)) (unless t rec n st)
      skip true e = walks_done i (grew_refl i) (inl e)
      skip false e = walks_map _ (spec n st i h.0) (λ st₁ i₁ g₁ p₁. inr p₁)

  module _ (rec : Need → State → Out State) (spec : Lowers rec) (st : State) (i : Inv m st) where
    -- ---- a signal's bit ----

    module _ (s b : ℕ) (d : ℕ × ℕ) (free : cell none st.signal_bits s b ≡ none) (unmarked : cell false st.resolving s b ≡ false) (got : Assigned m s b d.0 d.1) where
      same : cell none (mark st s b).signal_bits s b ≡ none
      unfolding mark
      same = free

      -- what the flag has lowered of the driver
      need_asked : (o : Bool) → Asked m (driven_by o d.0 d.1)
      need_asked false = got.value
      need_asked true = (got.value, omega (arith, got.bit))

      -- the net taken has the driver's bit
      net_taken : (o : Bool) (st₁ : State) → Inv m st₁ → After st₁ (driven_by o d.0 d.1)
          → NetsGive st₁.netlist st₁.signal_bits (driven_net o st₁ d.0 d.1 ∷ []) (λ v. get_or (word m.exprs v d.0) d.1 false ∷ [])
      unfolding whole_net
      net_taken false st₁ j h =
          let r = read_whole m st₁ j d.0 h in
          let n : d.1 < length (whole_nets st₁ d.0) = omega (arith, got.bit, whole_length m st₁ j good.exprs d.0 got.value h) in
          one_of r d.1 absent n
      net_taken true st₁ j h =
          let r = read_range m st₁ j good.exprs d.0 d.1 1 got.value (omega (arith, got.bit)) h in
          let n : length (range_nets st₁ d.0 d.1 1) ≡ 1 = holds_length j.sound r 1
          (λ v. slice_wide d.1 1 (word m.exprs v d.0) (omega (arith, got.bit, word_width m.exprs good.exprs v d.0 got.value))) in
          holds_as (one_of r 0 absent (omega arith)) (λ v. ap (λ (x : Bool). x ∷ []) (first_of d.1 (word m.exprs v d.0)))

      driven : (o : Out State) → Walks m (mark st s b) (λ st'. After st' (driven_by ob d.0 d.1)) o
          → Walks m st (λ st'. After st' (Bit s b)) (and_then o (λ st₁. done (set_signal_bit st₁ s b (driven_net ob st₁ d.0 d.1))))
      driven (refused n x y) w = walks_refused
      driven (done st₁) w =
          let k = w.walks in
          let n = driven_net ob st₁ d.0 d.1 in
          let t = net_taken ob st₁ k.inv k.post in
          let mk = marked m st s b i got.here got.inside in
          let fr : cell none st₁.signal_bits s b ≡ none = k.grew.framed.bits s b mk ∙ same in
          let on = k.grew.framed.marks s b mk in
          walks_done
          (inv_bit m st₁ s b n k.inv got.here got.inside fr t.there.0
          (λ l a x c v g. rw (driver_by m s b got.undriven, got.by) (sym (head_eq (t.holds l a x c v g)))))
          (grew_bit m st₁ s b n k.inv got.here got.inside fr on {st₀ = st} k.grew unmarked)
          (has_bit m st₁ s b n k.inv got.here got.inside fr)

    resolve_walk : (s b : ℕ) → Walks m st (λ st'. After st' (Bit s b)) (resolve_signal_bit rec m ob s b st)
    unfolding resolve_signal_bit signal_bit drive
    resolve_walk s b = go (cell none st.signal_bits s b) refl (driver_of m s b) refl (cell false st.resolving s b) refl
      where
        go : (o : Option ℕ) → cell none st.signal_bits s b ≡ o → (q : Option (ℕ × ℕ)) → driver_of m s b ≡ q → (t : Bool) → cell false st.resolving s b ≡ t
            → Walks m st (λ st'. After st' (Bit s b)) (elim o [
              | some n ↦ done st
              | none ↦ elim q [
                | none ↦ refused 6 s b
                | some d ↦ elim t [ true ↦ refused 7 s b | false ↦ drive rec ob s b d.0 d.1 st ]
              ]
            ])
        go (some n) e q f t g = walks_done i (grew_refl i) (record { value = n; is = e })
        go none e none f t g = walks_refused
        go none e (some d) f true g = walks_refused
        go none e (some d) f false g =
            let got = assigned m s b good d f in
            driven s b d e g got (rec (driven_by ob d.0 d.1) (mark st s b))
            (spec (driven_by ob d.0 d.1) (mark st s b) (inv_mark m st s b i) (need_asked s b d e g got ob))

    -- ---- an expression ----

    keep_whole_law : (e : ℕ) → e < length m.exprs → whole st e ≡ none → (st₁ : State) → Inv m st₁ → Grew st st₁ → (o : Made (List ℕ))
        → Makes st₁.netlist (λ ns l. NetsGive l st₁.signal_bits ns (λ v. word m.exprs v e)) o → Walks m st (λ st'. After st' (Whole e)) (keep_whole st₁ e o)
    unfolding keep_whole
    keep_whole_law e h z st₁ j g (refused n x y) w = walks_refused
    keep_whole_law e h z st₁ j g (done r) w =
        let k = w.makes in
        let j' = inv_netlist m st₁ r.1 j k.later in
        walks_done (inv_whole m (with_netlist st₁ r.1) e r.0 j' h k.post)
        (grew_whole m (with_netlist st₁ r.1) e r.0 j' h {st₀ = st} (grew_trans g (grew_netlist m st₁ r.1 k.later k.cells)) z)
        (has_whole m (with_netlist st₁ r.1) e r.0 j' h)

    after_steps : (e : ℕ) → e < length m.exprs → whole st e ≡ none → (o : Out State) → Walks m st (λ st'. AllAfter ob st' (whole_steps m.exprs e)) o
        → Walks m st (λ st'. After st' (Whole e)) (and_then o (λ st₁. keep_whole st₁ e (build_whole m.exprs ob st₁ e)))
    after_steps e h z (refused n x y) w = walks_refused
    after_steps e h z (done st₁) w =
        let k = w.walks in
        keep_whole_law e h z st₁ k.inv k.grew (build_whole m.exprs ob st₁ e) (whole_made G m good.exprs ob st₁ k.inv e h k.post)

    expression_walk : (e : ℕ) → e < length m.exprs → Walks m st (λ st'. After st' (Whole e)) (lower_expression rec m ob e st)
    unfolding lower_expression
    expression_walk e h = go (whole st e) refl
      where
        go : (o : Option (List ℕ)) → whole st e ≡ o → Walks m st (λ st'. After st' (Whole e)) (elim o [
          | some ns ↦ done st
          | none ↦ and_then (lower_steps rec ob (whole_steps m.exprs e) st) (λ st₁. keep_whole st₁ e (build_whole m.exprs ob st₁ e))
        ])
        go (some ns) q = walks_done i (grew_refl i) (record { value = ns; is = q })
        go none q = after_steps e h q (lower_steps rec ob (whole_steps m.exprs e) st)
            (steps_walk rec spec (whole_steps m.exprs e) st i (whole_asked m good.exprs e h))

    -- ---- a range ----

    keep_range_law : (st₁ : State) → Inv m st₁ → (e lsb w : ℕ) → e < length m.exprs → lsb + w ≤ width_at m.exprs e → (o : Made (List ℕ))
        → Makes st₁.netlist (λ ns l. NetsGive l st₁.signal_bits ns (λ v. slice_w lsb w (word m.exprs v e))) o
        → Walks m st₁ (λ st'. After st' (Range e lsb w)) (keep_range st₁ e lsb o)
    unfolding keep_range
    keep_range_law st₁ j e lsb w h fits (refused n x y) q = walks_refused
    keep_range_law st₁ j e lsb w h fits (done r) q =
        let k = q.makes in
        let j' = inv_netlist m st₁ r.1 j k.later in
        let n : length r.0 ≡ w = holds_length k.later.sound k.post w
        (λ v. slice_wide lsb w (word m.exprs v e) (omega (arith, word_width m.exprs good.exprs v e h))) in
        let ok : lsb + length r.0 ≤ width_at m.exprs e = omega arith in
        walks_done (inv_range m (with_netlist st₁ r.1) e lsb r.0 j' good.exprs h ok (rw n k.post))
        (grew_trans (grew_netlist m st₁ r.1 k.later k.cells) (grew_range m (with_netlist st₁ r.1) e lsb r.0 j' good.exprs h ok))
        (λ b x y. has_range m (with_netlist st₁ r.1) e lsb r.0 j' good.exprs h ok b x (omega arith))

    range_walk : (e lsb w : ℕ) → e < length m.exprs → lsb + w ≤ width_at m.exprs e
        → Walks m st (λ st'. After st' (Range e lsb w)) (lower_expression_range rec m ob e lsb w st)
    unfolding lower_expression_range
    range_walk e lsb w h fits = go (range_known st e lsb w) refl
      where
        go : (t : Bool) → range_known st e lsb w ≡ t → Walks m st (λ st'. After st' (Range e lsb w)) (elim t [
          | true ↦ done st
          | false ↦ and_then (lower_steps rec ob (range_steps_of m.exprs e lsb w) st) (λ st₁. keep_range st₁ e lsb (build_range m.exprs ob st₁ e lsb w))
        ])
        go true q = walks_done i (grew_refl i) (known_after m st i good.exprs e lsb w h fits q)
        go false q = walks_bind (lower_steps rec ob (range_steps_of m.exprs e lsb w) st) (λ st₁. keep_range st₁ e lsb (build_range m.exprs ob st₁ e lsb w))
            (steps_walk rec spec (range_steps_of m.exprs e lsb w) st i (range_asked m good.exprs e h lsb w fits))
            (λ st₁ i₁ g₁ p₁. keep_range_law st₁ i₁ e lsb w h fits (build_range m.exprs ob st₁ e lsb w) (range_made G m good.exprs ob st₁ i₁ e lsb w h fits p₁))

  -- ---- all of it ----

  step_walk : (rec : Need → State → Out State) → Lowers rec → Lowers (lower_by rec m ob)
  step_walk rec spec (Bit s b) st i h = resolve_walk rec spec st i s b
  step_walk rec spec (Whole e) st i h = expression_walk rec spec st i e h
  step_walk rec spec (Range e lsb w) st i h = range_walk rec spec st i e lsb w h.0 h.1

  pub need_walk : (f : ℕ) → Lowers (lower_need f m ob)
  unfolding lower_need
  need_walk zero n st i h = walks_refused
  need_walk (suc f) n st i h = step_walk (λ n' st'. lower_need f m ob n' st') (need_walk f) n st i h

  -- the needs of a list of steps are all lowered
  pub all_walk : (ss : List Step) (st : State) → Inv m st → AllAsked m ss → Walks m st (λ st'. AllAfter ob st' ss) (lower_all m ob ss st)
  unfolding lower_all
  all_walk ss st i h = steps_walk (λ n st'. lower_need (plenty m) m ob n st') (need_walk (plenty m)) ss st i h
