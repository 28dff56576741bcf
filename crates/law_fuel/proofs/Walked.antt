-- What is proved of specs/Walked: The walk does not run out of fuel. With u signal bits unmarked a need costs u (2 expressions + 1) and its rank; each of its steps has a lower rank, or one bit
-- fewer is unmarked. Assumes nothing.
use Rattle.std.specs.Prelude.{◌≡◌, Bool, length}
use Rattle.std.proofs.Math.Path.{refl}
use Rattle.std.proofs.Math.Bool.{true, false}
use mathlib.Core.List.{List, [], ◌∷◌}
use Rattle.std.proofs.Math.Option.{Option, none, some}
use Prim.Native.Nat.{ℕ, zero, suc, ◌+◌, ◌*◌, ◌≤◌, ◌<◌}
use Rattle.std.proofs.Common.{not-suc-le-zero}
use native.Mathlib.Omega.{arith}
use Rattle.spec_rtl.specs.Rtl.{Module}
use Rattle.spec_model.specs.Builder.{Out, refused, done, and_then, is_value}
use Rattle.spec_model.specs.Lowering.{State, Need, Bit, Whole, Range, Step, Always, Unless, cell, whole, set_signal_bit, mark, set_whole, set_range, signal_bit, range_known, driven_by, driven_net, selected, whole_steps, range_steps_of, build_whole, build_range, unless, lower_steps, driver_of, drive, resolve_signal_bit, keep_whole, lower_expression, keep_range, lower_expression_range, lower_by, lower_need, plenty, sum_widths, lower_all}
use Rattle.law_walk.specs.Good.{Good}
use Rattle.law_walk.specs.Reads.{Asked, AllAsked}
use Rattle.law_walk.specs.Walk.{Assigned}
use Rattle.law_walk.proofs.Walk.{assigned}
use Rattle.law_needs.specs.Room.{whole_room, range_room}
use Rattle.law_fuel.specs.Ranks.{rank, AllRank, most}
use Rattle.law_fuel.proofs.Ranks.{range_rank}
use Rattle.law_fuel.proofs.Ranks.{asked_rank, all_rank, whole_rank}
use Rattle.law_fuel.specs.Marks.{Under, under_more, mark_fewer}
use Rattle.law_fuel.specs.Walked.{Goes, all_enough, cost, goes_bind, goes_done, goes_room, rank_room}

-- ---- one step of the walk ----

module _ (m : Module) (good : Good m) (ob : Bool) where
  -- fuel f is enough for all that costs less
  abbrev Feeds : ℕ → (Need → State → Out State) → Type 0
  Feeds f rec = (u : ℕ) (n : Need) (st : State) → Under m u st → rank n < most m → cost m u n < f → Goes m u (rec n st)

  module _ (f : ℕ) (rec : Need → State → Out State) (spec : Feeds f rec) where
    unless_goes : (t : Bool) (u : ℕ) (n : Need) (st : State) → Under m u st → rank n < most m → cost m u n < f → Goes m u (unless t rec n st)
    unless_goes true u n st i r h = goes_done i
    unless_goes false u n st i r h = spec u n st i r h

    -- steps of ranks below g
    steps_goes : (u g : ℕ) → g ≤ most m → u * most m + g ≤ f → (ss : List Step) (st : State) → Under m u st → AllRank g ss → Goes m u (lower_steps rec ob ss st)
    unfolding lower_steps
    steps_goes u g a h [] st i r = goes_done i
    steps_goes u g a h (Always n ∷ ss) st i r =
        goes_bind (rec n st) _ (spec u n st i (omega (arith, r.0)) (omega (arith, r.0))) (λ st₁ i₁. steps_goes u g a h ss st₁ i₁ r.1)
    steps_goes u g a h (Unless c v n ∷ ss) st i r =
        goes_bind (unless (is_value v (selected ob st c)) rec n st) _
        (unless_goes (is_value v (selected ob st c)) u n st i (omega (arith, r.0)) (omega (arith, r.0))) (λ st₁ i₁. steps_goes u g a h ss st₁ i₁ r.1)

    module _ (u : ℕ) (st : State) (i : Under m u st) where
      driven_goes : (s b v : ℕ) → v < u → (net : State → ℕ) (o : Out State) → Goes m v o → Goes m u (and_then o (λ st₁. done (set_signal_bit st₁ s b (net st₁))))
      unfolding set_signal_bit
      driven_goes s b v h net (refused c x y) g = record { goes = g.goes }
      driven_goes s b v h net (done st₁) g = let j = under_more {v = u} (omega arith) g.goes in goes_done (record { marks = j.marks; few = j.few })

      drive_goes : (s b : ℕ) (d : ℕ × ℕ) → Assigned m s b d.0 d.1 → cell false st.resolving s b ≡ false → u * most m ≤ f → Goes m u (drive rec ob s b d.0 d.1 st)
      unfolding drive
      drive_goes s b d a e h =
          let need = driven_by ob d.0 d.1 in
          let q = mark_fewer {m = m} {u = u} {st = st} s b i a.here a.inside e in
          let r = asked_rank m need (asked ob) in
          driven_goes s b q.0 q.1 (λ st₁. driven_net ob st₁ d.0 d.1) (rec need (mark st s b))
          (spec q.0 need (mark st s b) q.2 r (omega (arith, rank_room u q.0 (most m) q.1)))
        where
          asked : (o : Bool) → Asked m (driven_by o d.0 d.1)
          asked false = a.value
          asked true = (a.value, omega (arith, a.bit))

      bit_goes : (s b : ℕ) → u * most m ≤ f → Goes m u (resolve_signal_bit rec m ob s b st)
      unfolding resolve_signal_bit
      bit_goes s b h = go (signal_bit st s b) (driver_of m s b) refl (cell false st.resolving s b) refl
        where
          go : (o : Option ℕ) (q : Option (ℕ × ℕ)) → driver_of m s b ≡ q → (t : Bool) → cell false st.resolving s b ≡ t → Goes m u (elim o [
            | some n ↦ done st
            | none ↦ elim q [
              | none ↦ refused 6 s b
              | some d ↦ elim t [ true ↦ refused 7 s b | false ↦ drive rec ob s b d.0 d.1 st ]
            ]
          ])
          go (some n) q x t y = goes_done i
          go none none x t y = record { goes = λ e. omega arith }
          go none (some d) x true y = record { goes = λ e. omega arith }
          go none (some d) x false y = drive_goes s b d (assigned m s b good d x) y h

      expression_goes : (e : ℕ) → e < length m.exprs → cost m u (Whole e) ≤ f → Goes m u (lower_expression rec m ob e st)
      unfolding lower_expression keep_whole set_whole
      expression_goes e l h = go (whole st e)
        where
          go : (o : Option (List ℕ)) → Goes m u (elim o [
            | some ns ↦ done st
            | none ↦ and_then (lower_steps rec ob (whole_steps m.exprs e) st) (λ st₁. keep_whole st₁ e (build_whole m.exprs ob st₁ e))
          ])
          go (some ns) = goes_done i
          go none =
              goes_bind (lower_steps rec ob (whole_steps m.exprs e) st) _
              (steps_goes u (rank (Whole e)) (omega arith) h (whole_steps m.exprs e) st i (whole_rank m.exprs good.exprs e l))
              (λ st₁ i₁. goes_room (build_whole m.exprs ob st₁ e) _ (whole_room m.exprs ob st₁ e) (λ r. goes_done (record { marks = i₁.marks; few = i₁.few })))

      range_goes : (e lsb w : ℕ) → e < length m.exprs → cost m u (Range e lsb w) ≤ f → Goes m u (lower_expression_range rec m ob e lsb w st)
      unfolding lower_expression_range keep_range set_range
      range_goes e lsb w l h = go (range_known st e lsb w)
        where
          go : (t : Bool) → Goes m u (elim t [
            | true ↦ done st
            | false ↦ and_then (lower_steps rec ob (range_steps_of m.exprs e lsb w) st) (λ st₁. keep_range st₁ e lsb (build_range m.exprs ob st₁ e lsb w))
          ])
          go true = goes_done i
          go false =
              goes_bind (lower_steps rec ob (range_steps_of m.exprs e lsb w) st) _
              (steps_goes u (rank (Range e lsb w)) (omega arith) h (range_steps_of m.exprs e lsb w) st i (range_rank m.exprs good.exprs e l lsb w))
              (λ st₁ i₁. goes_room (build_range m.exprs ob st₁ e lsb w) _ (range_room m.exprs ob st₁ e lsb w) (λ r. goes_done (record { marks = i₁.marks; few = i₁.few })))

    by_goes : Feeds (suc f) (lower_by rec m ob)
    by_goes u (Bit s b) st i r h = bit_goes u st i s b (omega arith)
    by_goes u (Whole e) st i r h = expression_goes u st i e (omega arith) (omega arith)
    by_goes u (Range e lsb w) st i r h = range_goes u st i e lsb w (omega arith) (omega arith)

  -- ---- all of it ----

  need_feeds : (f : ℕ) → Feeds f (lower_need f m ob)
  unfolding lower_need
  need_feeds zero u n st i r h = absurd (not-suc-le-zero h)
  need_feeds (suc f) u n st i r h = by_goes f (λ n' st'. lower_need f m ob n' st') (need_feeds f) u n st i r h

  -- a list of steps, by the call
  pub all_goes : (u : ℕ) → u ≤ sum_widths m.signals → (ss : List Step) (st : State) → Under m u st → AllAsked m ss → Goes m u (lower_all m ob ss st)
  unfolding lower_all
  all_goes u h ss st i a =
      steps_goes (plenty m) (λ n st'. lower_need (plenty m) m ob n st') (need_feeds (plenty m)) u (most m) (omega arith) (all_enough m u h) ss st i (all_rank m ss a)
