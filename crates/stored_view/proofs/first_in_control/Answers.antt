-- `stored_view::first_in_control` meets its contract. Assumes nothing.
use Rattle.std.proofs.Common.{sym, ◌∙◌, arith}
use Rattle.stored_view.specs.Found.{one_hit, one_skip, pair_none}
use Rattle.stored_view.proofs.first_in_control.Goals as goal

pub returns-then-no_optional : goal.returns-then-no_optional
returns-then-no_optional c = λ wrong e f. one_hit wrong _ _ (omega arith) (e ∙ (sym c.no_optional.ensures ∙ c.if-no_optional.true))

pub returns-then-wrong_level : goal.returns-then-wrong_level
returns-then-wrong_level c = λ wrong e f.
    one_skip wrong _ _ (omega arith) (e ∙ (sym c.no_optional.ensures ∙ c.if-no_optional.false)) (one_hit wrong _ _ (omega arith) (f ∙ (sym c.wrong_level.ensures ∙ c.if-wrong_level.true)))

pub returns : goal.returns
returns c = λ wrong e f. pair_none wrong _ (e ∙ (sym c.no_optional.ensures ∙ c.if-no_optional.false)) (f ∙ (sym c.wrong_level.ensures ∙ c.if-wrong_level.false))
