-- `stored_marks::keep` meets its contract. Assumes nothing.
use mathlib.Core.Path.{sym, ap, ◌∙◌, subst}
use mathlib.Core.List.{List, [], ◌∷◌, ◌++◌}
use Prim.Native.Nat.{ℕ, ◌+◌}
use native.Mathlib.Omega.{arith}
use lib.ListN.{get_or, set}
use Rattle.spec_tests.specs.Rules.{◌≢?◌, ◌or◌}
use Rattle.spec_netlist.specs.Accept.{member}
use Rattle.stored_view.specs.Opened.{Counted}
use Rattle.stored_marks.specs.Keep.{marked_more, counted_more}
use Rattle.stored_marks.proofs.keep.Goals as goal

pub returns : goal.returns
returns c = λ ws earlier n m k.
    let r = c.args.r.now in
    let counts = c.args.counts.now in
    let one = c.mark.new.marks in (
      marked_more ws earlier r c.args.marks.now one c.mark-2.new.marks n m (omega (arith, c.mark.auto.marks))
          (λ x h. c.mark.ensures x h ∙ ap (λ (t : List ℕ). (get_or c.args.marks.now x 0 ≢? 0) or member x t) c.own.ensures)
          (λ x h. c.mark-2.ensures x h ∙ ap (λ (t : List ℕ). (get_or one x 0 ≢? 0) or member x t) c.second_own.ensures),
      subst (λ (s : ℕ). Counted (earlier ++ (r ∷ [])) (set counts s (get_or counts s 0 + 1))) (sym c.word_at-sort.ensures) (counted_more earlier r counts (omega arith) k),
    )
