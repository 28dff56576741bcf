-- `stored_view::first_in_clock` meets its contract. Assumes nothing.
use Rattle.std.proofs.Common.{sym, ◌∙◌, arith}
use Rattle.spec_tests.specs.Laws.{lt_yes, lt_no}
use Rattle.stored_view.specs.Found.{one_hit, one_skip, pair_none}
use Rattle.stored_view.proofs.first_in_clock.Goals as goal

pub returns-then-no_net : goal.returns-then-no_net
returns-then-no_net c = λ wrong e f. one_hit wrong _ _ (omega arith) (e ∙ (sym c.no_net.ensures ∙ c.if-no_net.true))

pub returns-then-l-at-gt1 : goal.returns-then-l-at-gt1
returns-then-l-at-gt1 c = λ wrong e f.
    one_skip wrong _ _ (omega arith) (e ∙ (sym c.no_net.ensures ∙ c.if-no_net.false)) (one_hit wrong _ _ (omega arith) (f ∙ lt_yes _ _ c.if-l-at-gt1.true))

pub returns : goal.returns
returns c = λ wrong e f. pair_none wrong _ (e ∙ (sym c.no_net.ensures ∙ c.if-no_net.false)) (f ∙ lt_no _ _ c.if-l-at-gt1.false)
