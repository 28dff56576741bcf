-- What is proved of specs/Told: What a refusal of the walk tells (flag false). 6: needs lead from what was to be lowered to the bit that it names, which is undriven. 7: to a
-- bit that is driven by an expression and needs itself, or was open before: marked and without a net. Any other is for want of room.
-- After a success no more bits are open than before. Assumes nothing.
use Rattle.std.specs.Prelude.{◌≡◌, ◌⊎◌, Bool, length}
use Rattle.std.proofs.Math.Path.{refl, sym, ap₂, subst}
use Rattle.std.proofs.Common.{ap, ◌∙◌, inl, inr, arith}
use Rattle.std.proofs.Math.Logic.{⊎_elim}
use Rattle.std.proofs.Math.Bool.{true, false}
use mathlib.Core.List.{List, [], ◌∷◌}
use Rattle.std.proofs.Math.Option.{Option, none, some}
use Prim.Native.Nat.{ℕ, zero, suc, ◌+◌, ◌≤◌, ◌<◌}
use Rattle.spec_rtl.specs.Rtl as R
use Rattle.spec_rtl.specs.Rtl.{Module, driver}
use Rattle.spec_model.specs.Words.{absent}
use Rattle.spec_model.specs.Builder.{Out, refused, done, and_then, Made}
use Rattle.spec_model.specs.Ranges.{width_at}
use Rattle.spec_model.specs.Lowering.{State, Need, Bit, Whole, Range, Step, Always, Unless, cell, put, whole, set_signal_bit, mark, set_whole, set_range, signal_bit, range_known, driven_net, lower_steps, driver_of, drive, resolve_signal_bit, keep_whole, lower_expression, keep_range, lower_expression_range, lower_by, lower_need, whole_steps, range_steps_of, build_whole, build_range}
use Rattle.law_nets.specs.Run.{Meets, Limit}
use Rattle.law_walk.specs.Tables.{none_some, same_cell, put_other, put_same}
use Rattle.law_walk.specs.Good.{Good}
use Rattle.law_walk.specs.Kept.{Inv, Walks}
use Rattle.law_walk.specs.Reads.{Asked, After, AllAsked}
use Rattle.law_walk.specs.Writes.{inv_mark}
use Rattle.law_walk.specs.Gates.{Gates}
use Rattle.law_walk.specs.Walk.{whole_asked, range_asked}
use Rattle.law_walk.proofs.Walk.{assigned, driver_by, Lowers, need_walk}
use Rattle.spec_needs.specs.Reads.{Place, bit_reads, whole_reads}
use Rattle.spec_needs.specs.Needs.{In, bit_needs, driven_needs, Needs}
use Rattle.law_needs.specs.Room.{refused_by_law, whole_room, range_room}
use Rattle.law_needs.specs.Safe.{Reaches, needs_first}
use Rattle.law_needs.specs.Covers.{NeedOk, AllOk, whole_covered, range_covered}
use Rattle.law_needs.specs.Inside.{Inside, Within, insides, Sourced, sourced_stays, sourced_mark, nothing_drives, Driven}
use Rattle.law_needs.specs.Complete.{further_grew}
use Rattle.law_needs.specs.Told.{AllSome, Some, in_whole, some_range, some_whole}

module _ (m : Module) where
  -- y is read by a need
  abbrev pub ReadBy : Place → Need → Type 0
  ReadBy y (Bit s b) = y ≡ (s, b)
  ReadBy y (Whole e) = (i : ℕ) × (i < width_at m.exprs e) × In y (bit_reads m.exprs e i)
  ReadBy y (Range e lsb w) = (i : ℕ) × (lsb ≤ i) × (i < lsb + w) × In y (bit_reads m.exprs e i)

  -- what is said of all places is said of those read
  pub said : (P : Place → Type 0) (n : Need) → NeedOk m.exprs P n → (y : Place) → ReadBy y n → P y
  said P (Bit s b) h y r = subst P (sym r) h
  said P (Whole e) h y r = h r.0 r.1 y r.2
  said P (Range e lsb w) h y r = h r.0 r.1 r.2 y r.3

  itself : (n : Need) → NeedOk m.exprs (λ y. ReadBy y n) n
  itself (Bit s b) = refl
  itself (Whole e) = λ i u y h. (i, u, h)
  itself (Range e lsb w) = λ i l u y h. (i, l, u, h)

  abbrev pub Open : State → Place → Type 0
  Open st x = (cell false st.resolving x.0 x.1 ≡ true) × (cell none st.signal_bits x.0 x.1 ≡ none)

  -- needs lead from what n reads to z
  pub record Way (n : Need) (z : Place) : Type 0 where
    pub first : Place
    pub begins : ReadBy first n
    pub reaches : Reaches m first z

  pub data Told (n : Need) (st : State) : ℕ → ℕ → ℕ → Type 0 where
    undriven : {x y : ℕ} → Way n (x, y) → Inside m (x, y) → driver m x y ≡ R.Nothing → Told n st 6 x y
    looping : {x y : ℕ} → Way n (x, y) → Inside m (x, y) → Driven m x y → Needs m (x, y) (x, y) ⊎ Open st (x, y) → Told n st 7 x y
    room : {c x y : ℕ} → Limit c x y → Told n st c x y
    -- without fuel: a number that no refusal has
    spent : {x y : ℕ} → Told n st absent x y

  -- no bit is open after that was not open before
  abbrev pub NoNew : State → State → Type 0
  NoNew st st' = (x : Place) → Open st' x → Open st x

  way_to : {n n' : Need} {z : Place} → ((y : Place) → ReadBy y n' → ReadBy y n) → Way n' z → Way n z
  way_to h w = record { first = w.first; begins = h w.first w.begins; reaches = w.reaches }

  told_to : {n n' : Need} {st st' : State} {c x y : ℕ} → ((z : Place) → ReadBy z n' → ReadBy z n) → NoNew st st' → Told n' st' c x y → Told n st c x y
  told_to h q (undriven w i d) = undriven (way_to h w) i d
  told_to h q (looping w i d r) = looping (way_to h w) i d (⊎_elim (λ a. inl a) (λ o. inr (q _ o)) r)
  told_to h q (room l) = room l
  told_to h q spent = spent

module _ (G : Gates) (m : Module) (good : Good m) (within : Within m) where
  abbrev pub Tells : Need → State → Out State → Type 0
  Tells n st o = Meets (Told m n st) (NoNew m st) o

  abbrev pub Spec : (Need → State → Out State) → Type 0
  Spec rec = (n : Need) (st : State) → Inv m st → Asked m n → Some n → Sourced m st → NeedOk m.exprs (Inside m) n → Tells n st (rec n st)

  -- steps whose needs lead to N, one after another
  module _ (rec : Need → State → Out State) (spec : Lowers G m good false rec) (run : Spec rec) (N : Need) where
    one_tell : (n : Need) (st : State) → NeedOk m.exprs (λ y. ReadBy m y N) n → (o : Out State) → Walks m st (λ st'. After st' n) o → Tells n st o → (k : State → Out State)
        → ((st₁ : State) → Inv m st₁ → Sourced m st₁ → Tells N st₁ (k st₁)) → Sourced m st → Tells N st (and_then o k)
    one_tell n st r (refused c x y) w t k h z = told_to m (said m (λ y. ReadBy m y N) n r) (λ x o. o) t
    one_tell n st r (done st₁) w t k h z = rest (k st₁) (h st₁ w.walks.inv (sourced_stays m (further_grew w.walks.grew) z))
      where
        rest : (o : Out State) → Tells N st₁ o → Tells N st o
        rest (refused c x y) t₁ = told_to m (λ y h. h) t t₁
        rest (done st₂) t₁ = λ x o. t x (t₁ x o)

    steps_tell : (ss : List Step) (st : State) → Inv m st → AllAsked m ss → AllSome ss → Sourced m st
        → AllOk m.exprs (Inside m) ss → AllOk m.exprs (λ y. ReadBy m y N) ss → Tells N st (lower_steps rec false ss st)
    unfolding lower_steps
    steps_tell [] st i a q z f r = λ x o. o
    steps_tell (Always n ∷ ss) st i a q z f r =
        one_tell n st r.0 (rec n st) (spec n st i a.0) (run n st i a.0 q.0 z f.0) _ (λ st₁ i₁ z₁. steps_tell ss st₁ i₁ a.1 q.1 z₁ f.1 r.1) z
    steps_tell (Unless c v n ∷ ss) st i a q z f r =
        one_tell n st r.0 (rec n st) (spec n st i a.0) (run n st i a.0 q.0 z f.0) _ (λ st₁ i₁ z₁. steps_tell ss st₁ i₁ a.1 q.1 z₁ f.1 r.1) z

  -- ---- a bit and its driver ----

  module _ (s b : ℕ) (d : ℕ × ℕ) (q : driver_of m s b ≡ some d) where
    by : driver m s b ≡ R.FromExpr d.0 d.1
    by = let a = assigned m s b good d q in driver_by m s b a.undriven ∙ a.by

    driven : (y : Place) → ReadBy m y (Whole d.0) → In y (bit_needs m (s, b))
    unfolding bit_needs whole_reads
    driven y r = subst (In y) (sym (ap (driven_needs m) by)) (in_whole (width_at m.exprs d.0) (bit_reads m.exprs d.0) r.0 y r.1 r.2)

    needs_way : {z : Place} → Way m (Whole d.0) z → Needs m (s, b) z
    needs_way w = needs_first m (driven w.first w.begins) w.reaches

    longer : {z : Place} → Way m (Whole d.0) z → Way m (Bit s b) z
    longer w = record { first = (s, b); begins = refl; reaches = inr (needs_way w) }

  here : (s b : ℕ) → Way m (Bit s b) (s, b)
  here s b = record { first = (s, b); begins = refl; reaches = inl refl }

  module _ (rec : Need → State → Out State) (spec : Lowers G m good false rec) (run : Spec rec) (st : State) (i : Inv m st) (z : Sourced m st) where
    -- ---- a signal's bit ----

    module _ (s b : ℕ) where
      opened : (x y : ℕ) → Open m (mark st s b) (x, y) → ((x ≡ s) × (y ≡ b) → ⊥) → Open m st (x, y)
      unfolding mark
      opened x y o n = (sym (put_other false st.resolving s b true x y n) ∙ o.0, o.1)

      module _ (d : ℕ × ℕ) (q : driver_of m s b ≡ some d) where
        -- the bit itself, or one that was open before
        closed : {x y : ℕ} → Way m (Whole d.0) (x, y) → Needs m (x, y) (x, y) ⊎ Open m (mark st s b) (x, y) → Needs m (x, y) (x, y) ⊎ Open m st (x, y)
        closed {x} {y} w (inl r) = inl r
        closed {x} {y} w (inr o) = ⊎_elim
            (λ (e : (x ≡ s) × (y ≡ b)). inl (subst (λ (p : Place). Needs m p (x, y)) (sym (ap₂ (λ (u v : ℕ). (u, v)) e.0 e.1)) (needs_way s b d q w)))
            (λ n. inr (opened x y o n)) (same_cell x y s b)

        up : {c x y : ℕ} → Told m (Whole d.0) (mark st s b) c x y → Told m (Bit s b) st c x y
        up (undriven w h e) = undriven (longer s b d q w) h e
        up (looping w h e r) = looping (longer s b d q w) h e (closed w r)
        up (room l) = room l
        up spent = spent

        drive_tell : (o : Out State) → Walks m (mark st s b) (λ st'. After st' (Whole d.0)) o → Tells (Whole d.0) (mark st s b) o
            → Tells (Bit s b) st (and_then o (λ st₁. done (set_signal_bit st₁ s b (driven_net false st₁ d.0 d.1))))
        unfolding set_signal_bit
        drive_tell (refused c x y) w t = up t
        drive_tell (done st₁) w t = λ x o. ⊎_elim
            (λ (e : (x.0 ≡ s) × (x.1 ≡ b)).
            let a = assigned m s b good d q in
            let j = w.walks.inv in
            let same : cell none (put st₁.signal_bits s b (some (driven_net false st₁ d.0 d.1))) s b ≡ some (driven_net false st₁ d.0 d.1)
            = put_same none st₁.signal_bits s b _ (omega (arith, j.bits.rows, a.here)) (omega (arith, j.bits.cells s a.here, a.inside)) in
            absurd (none_some (sym o.1 ∙ ap₂ (λ (u v : ℕ). cell none (put st₁.signal_bits s b (some (driven_net false st₁ d.0 d.1))) u v) e.0 e.1 ∙ same)))
            (λ n. opened x.0 x.1 (t x (o.0, sym (put_other none st₁.signal_bits s b (some (driven_net false st₁ d.0 d.1)) x.0 x.1 n) ∙ o.1)) n)
            (same_cell x.0 x.1 s b)

      bit_tell : Inside m (s, b) → Tells (Bit s b) st (resolve_signal_bit rec m false s b st)
      unfolding resolve_signal_bit signal_bit drive
      bit_tell h = go (cell none st.signal_bits s b) refl (driver_of m s b) refl (cell false st.resolving s b) refl
        where
          go : (o : Option ℕ) → cell none st.signal_bits s b ≡ o → (q : Option (ℕ × ℕ)) → driver_of m s b ≡ q → (t : Bool) → cell false st.resolving s b ≡ t
              → Tells (Bit s b) st (elim o [
                | some n ↦ done st
                | none ↦ elim q [
                  | none ↦ refused 6 s b
                  | some d ↦ elim t [ true ↦ refused 7 s b | false ↦ drive rec false s b d.0 d.1 st ]
                ]
              ])
          go (some n) e q x t y = λ p o. o
          go none e none x t y = undriven (here s b) h (nothing_drives m st s b z h e x)
          go none e (some d) x true y = looping (here s b) h (record { expression = d.0; bit = d.1; is = by s b d x }) (inr (y, e))
          go none e (some d) x false y =
              let a = assigned m s b good d x in
              drive_tell d x (rec (Whole d.0) (mark st s b)) (spec (Whole d.0) (mark st s b) (inv_mark m st s b i) a.value)
              (run (Whole d.0) (mark st s b) (inv_mark m st s b i) a.value tt (sourced_mark m st s b z) (insides m good within d.0 a.value))

    -- ---- an expression ----

    keep_whole_tell : (e : ℕ) (st₁ : State) → NoNew m st st₁ → (r : Made (List ℕ)) → ((c x y : ℕ) → r ≡ refused c x y → Limit c x y) → Tells (Whole e) st (keep_whole st₁ e r)
    unfolding keep_whole set_whole
    keep_whole_tell e st₁ t (refused c x y) h = room (h c x y refl)
    keep_whole_tell e st₁ t (done r) h = λ x o. t x o

    whole_then : (e : ℕ) → (o : Out State) → Tells (Whole e) st o → Tells (Whole e) st (and_then o (λ st₁. keep_whole st₁ e (build_whole m.exprs false st₁ e)))
    whole_then e (refused c x y) t = t
    whole_then e (done st₁) t = keep_whole_tell e st₁ t (build_whole m.exprs false st₁ e) (λ c x y q. refused_by_law (whole_room m.exprs false st₁ e) c x y q)

    expression_tell : (e : ℕ) → e < length m.exprs → NeedOk m.exprs (Inside m) (Whole e) → Tells (Whole e) st (lower_expression rec m false e st)
    unfolding lower_expression
    expression_tell e h f = go (whole st e)
      where
        go : (o : Option (List ℕ)) → Tells (Whole e) st (elim o [
          | some ns ↦ done st
          | none ↦ and_then (lower_steps rec false (whole_steps m.exprs e) st) (λ st₁. keep_whole st₁ e (build_whole m.exprs false st₁ e))
        ])
        go (some ns) = λ x o. o
        go none = whole_then e (lower_steps rec false (whole_steps m.exprs e) st)
            (steps_tell rec spec run (Whole e) (whole_steps m.exprs e) st i (whole_asked m good.exprs e h) (some_whole m.exprs good.exprs e h) z
            (whole_covered m.exprs (Inside m) good.exprs e h f) (whole_covered m.exprs (λ y. ReadBy m y (Whole e)) good.exprs e h (itself m (Whole e))))

    -- ---- a range ----

    keep_range_tell : (e lsb w : ℕ) (st₁ : State) → NoNew m st st₁ → (r : Made (List ℕ)) → ((c x y : ℕ) → r ≡ refused c x y → Limit c x y) → Tells (Range e lsb w) st (keep_range st₁ e lsb r)
    unfolding keep_range set_range
    keep_range_tell e lsb w st₁ t (refused c x y) h = room (h c x y refl)
    keep_range_tell e lsb w st₁ t (done r) h = λ x o. t x o

    range_then : (e lsb w : ℕ) → (o : Out State) → Tells (Range e lsb w) st o → Tells (Range e lsb w) st (and_then o (λ st₁. keep_range st₁ e lsb (build_range m.exprs false st₁ e lsb w)))
    range_then e lsb w (refused c x y) t = t
    range_then e lsb w (done st₁) t = keep_range_tell e lsb w st₁ t (build_range m.exprs false st₁ e lsb w) (λ c x y q. refused_by_law (range_room m.exprs false st₁ e lsb w) c x y q)

    range_tell : (e lsb w : ℕ) → e < length m.exprs → lsb + w ≤ width_at m.exprs e → 1 ≤ w → NeedOk m.exprs (Inside m) (Range e lsb w)
        → Tells (Range e lsb w) st (lower_expression_range rec m false e lsb w st)
    unfolding lower_expression_range
    range_tell e lsb w h fits o f = go (range_known st e lsb w)
      where
        go : (t : Bool) → Tells (Range e lsb w) st (elim t [
          | true ↦ done st
          | false ↦ and_then (lower_steps rec false (range_steps_of m.exprs e lsb w) st) (λ st₁. keep_range st₁ e lsb (build_range m.exprs false st₁ e lsb w))
        ])
        go true = λ x o. o
        go false = range_then e lsb w (lower_steps rec false (range_steps_of m.exprs e lsb w) st)
            (steps_tell rec spec run (Range e lsb w) (range_steps_of m.exprs e lsb w) st i (range_asked m good.exprs e h lsb w fits) (some_range m.exprs e lsb w o) z
            (range_covered m.exprs (Inside m) good.exprs e h lsb w o fits f)
            (range_covered m.exprs (λ y. ReadBy m y (Range e lsb w)) good.exprs e h lsb w o fits (itself m (Range e lsb w))))

  step_tell : (rec : Need → State → Out State) → Lowers G m good false rec → Spec rec → Spec (lower_by rec m false)
  step_tell rec spec run (Bit s b) st i a o z f = bit_tell rec spec run st i z s b f
  step_tell rec spec run (Whole e) st i a o z f = expression_tell rec spec run st i z e a f
  step_tell rec spec run (Range e lsb w) st i a o z f = range_tell rec spec run st i z e lsb w a.0 a.1 o f

  pub need_tell : (n : ℕ) → Spec (lower_need n m false)
  unfolding lower_need
  need_tell zero x st i a o z f = spent
  need_tell (suc n) x st i a o z f = step_tell (λ n' st'. lower_need n m false n' st') (need_walk G m good false n) (need_tell n) x st i a o z f
