-- The walk leaves the nets of input signals as they are. Assumes nothing.
use Prim.Native.Nat.{ℕ, zero, suc}
use Rattle.std.specs.Prelude.{◌≡◌, Bool, get_or, set}
use Rattle.std.proofs.Math.Path.{refl}
use Rattle.std.proofs.Common.{sym, ap, ◌∙◌}
use Rattle.std.proofs.Math.Bool.{true, false}
use mathlib.Core.List.{List, [], ◌∷◌}
use Rattle.std.proofs.Math.Option.{Option, none, some}
use Rattle.std.proofs.Math.Seq.{get_or-set_other}
use Rattle.spec_rtl.specs.Rtl as R
use Rattle.spec_rtl.specs.Rtl.{Module, dir_of}
use Rattle.spec_model.specs.Builder.{Out, refused, done, and_then, Made, is_value}
use Rattle.spec_model.specs.Lowering.{State, Need, Bit, Whole, Range, Step, Always, Unless, cell, set_signal_bit, mark, set_whole, set_range, signal_bit, whole, range_known, whole_steps, range_steps_of, selected, driven_by, driven_net, build_whole, build_range, unless, lower_steps, driver_of, drive, resolve_signal_bit, keep_whole, lower_expression, keep_range, lower_expression_range, lower_by, lower_need, plenty, lower_all}
use Rattle.law_walk.specs.Good.{Good}
use Rattle.law_walk.proofs.Walk.{assigned}
use Rattle.law_owners.specs.Ends.{Ends, ends_done, ends_refused, ends_then}

-- the rows of input signals in t are those in t₀
abbrev pub SameRows : Module → List (List (Option ℕ)) → List (List (Option ℕ)) → Type 0
SameRows m t₀ t = (p : ℕ) → dir_of m p ≡ R.Input → get_or t p [] ≡ get_or t₀ p []

module _ (m : Module) (good : Good m) (t₀ : List (List (Option ℕ))) where
  abbrev Same : State → Type 0
  Same st = SameRows m t₀ st.signal_bits

  abbrev Keeps : Out State → Type 0
  Keeps o = Ends Same o

  keep_whole_law : (st : State) (e : ℕ) (r : Made (List ℕ)) → Same st → Keeps (keep_whole st e r)
  unfolding keep_whole set_whole
  keep_whole_law st e (refused n x y) h = ends_refused
  keep_whole_law st e (done r) h = ends_done h

  keep_range_law : (st : State) (e lsb : ℕ) (r : Made (List ℕ)) → Same st → Keeps (keep_range st e lsb r)
  unfolding keep_range set_range
  keep_range_law st e lsb (refused n x y) h = ends_refused
  keep_range_law st e lsb (done r) h = ends_done h

  module _ (ob : Bool) (rec : Need → State → Out State) (spec : (n : Need) (st : State) → Same st → Keeps (rec n st)) where
    unless_keeps : (t : Bool) (n : Need) (st : State) → Same st → Keeps (unless t rec n st)
    unless_keeps true n st h = ends_done h
    unless_keeps false n st h = spec n st h

    steps_keep : (ss : List Step) (st : State) → Same st → Keeps (lower_steps rec ob ss st)
    unfolding lower_steps
    steps_keep [] st h = ends_done h
    steps_keep (Always n ∷ ss) st h = ends_then (rec n st) (spec n st h) (λ st₁ k. steps_keep ss st₁ k)
    steps_keep (Unless c v n ∷ ss) st h =
        ends_then (unless (is_value v (selected ob st c)) rec n st) (unless_keeps (is_value v (selected ob st c)) n st h) (λ st₁ k. steps_keep ss st₁ k)

    drive_keeps : (s b e o : ℕ) (st : State) → (dir_of m s ≡ R.Input → ⊥) → Same st → Keeps (drive rec ob s b e o st)
    unfolding drive mark set_signal_bit
    drive_keeps s b e o st n h =
        ends_then (rec (driven_by ob e o) (mark st s b)) (spec (driven_by ob e o) (mark st s b) h) (λ st₁ k.
        ends_done (λ p d. get_or-set_other st₁.signal_bits s p (set (get_or st₁.signal_bits s []) b (some (driven_net ob st₁ e o))) [] (λ q. n (ap (dir_of m) (sym q) ∙ d)) ∙ k p d))

    bit_keeps : (s b : ℕ) (st : State) → Same st → Keeps (resolve_signal_bit rec m ob s b st)
    unfolding resolve_signal_bit
    bit_keeps s b st h = go (signal_bit st s b) (driver_of m s b) refl (cell false st.resolving s b)
      where
        go : (o : Option ℕ) (q : Option (ℕ × ℕ)) → driver_of m s b ≡ q → (t : Bool) → Keeps (elim o [
          | some n ↦ done st
          | none ↦ elim q [
            | none ↦ refused 6 s b
            | some d ↦ elim t [ true ↦ refused 7 s b | false ↦ drive rec ob s b d.0 d.1 st ]
          ]
        ])
        go (some n) q e t = ends_done h
        go none none e t = ends_refused
        go none (some d) e true = ends_refused
        go none (some d) e false = drive_keeps s b d.0 d.1 st (assigned m s b good d e).undriven.input h

    expression_keeps : (e : ℕ) (st : State) → Same st → Keeps (lower_expression rec m ob e st)
    unfolding lower_expression
    expression_keeps e st h = go (whole st e)
      where
        go : (o : Option (List ℕ)) → Keeps (elim o [
          | some ns ↦ done st
          | none ↦ and_then (lower_steps rec ob (whole_steps m.exprs e) st) (λ st₁. keep_whole st₁ e (build_whole m.exprs ob st₁ e))
        ])
        go (some ns) = ends_done h
        go none = ends_then (lower_steps rec ob (whole_steps m.exprs e) st) (steps_keep (whole_steps m.exprs e) st h) (λ st₁ k. keep_whole_law st₁ e (build_whole m.exprs ob st₁ e) k)

    range_keeps : (e lsb w : ℕ) (st : State) → Same st → Keeps (lower_expression_range rec m ob e lsb w st)
    unfolding lower_expression_range
    range_keeps e lsb w st h = go (range_known st e lsb w)
      where
        go : (t : Bool) → Keeps (elim t [
          | true ↦ done st
          | false ↦ and_then (lower_steps rec ob (range_steps_of m.exprs e lsb w) st) (λ st₁. keep_range st₁ e lsb (build_range m.exprs ob st₁ e lsb w))
        ])
        go true = ends_done h
        go false =
            ends_then (lower_steps rec ob (range_steps_of m.exprs e lsb w) st) (steps_keep (range_steps_of m.exprs e lsb w) st h)
            (λ st₁ k. keep_range_law st₁ e lsb (build_range m.exprs ob st₁ e lsb w) k)

    by_keeps : (n : Need) (st : State) → Same st → Keeps (lower_by rec m ob n st)
    by_keeps (Bit s b) st h = bit_keeps s b st h
    by_keeps (Whole e) st h = expression_keeps e st h
    by_keeps (Range e lsb w) st h = range_keeps e lsb w st h

  need_keeps : (f : ℕ) (ob : Bool) (n : Need) (st : State) → Same st → Keeps (lower_need f m ob n st)
  unfolding lower_need
  need_keeps zero ob n st h = ends_refused
  need_keeps (suc f) ob n st h = by_keeps ob (λ n' st'. lower_need f m ob n' st') (λ n' st' k. need_keeps f ob n' st' k) n st h

  pub rows_kept : (ob : Bool) (ss : List Step) (st : State) → Same st → Keeps (lower_all m ob ss st)
  unfolding lower_all
  rows_kept ob ss st h = steps_keep ob (λ n st'. lower_need (plenty m) m ob n st') (λ n st' k. need_keeps (plenty m) ob n st' k) ss st h
