-- `image_records::expression_in` meets its contract. Assumes nothing.
use Prim.Native.Nat.{ℕ, ◌*◌}
use mathlib.Core.Path.{refl, ap, ◌∙◌}
use native.Mathlib.Nat.{add-sub_cancel_left}
use lib.ListN.{take, drop}
use Rattle.image_records.specs.Expr.{expression_in, expression_own}
use Rattle.image_records.proofs.expression_in.Goals as goal

pub returns-then-at-part : goal.returns-then-at-part
returns-then-at-part c =
    let a = c.args in
    let at = 20 * a.r in
    c.first_expression.ensures
    ∙ ap (λ (k : ℕ). expression_in (take k (drop at a.part.now)) 0) (add-sub_cancel_left at 20)
    ∙ expression_own a.part.now at a.r refl
