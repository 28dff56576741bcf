-- `walk_plan::operand` meets its contract. Assumes nothing.
use mathlib.Core.Path.{ap}
use Rattle.spec_tests.specs.Options.{option_of}
use Rattle.expr_fusion.specs.Fusion.{shown}
use Rattle.walk_plan.specs.Kinds.{operand_two, operand_three, turn_for}
use Rattle.walk_plan.proofs.operand.Goals as goal

pub returns-in-Some : goal.returns-in-Some
returns-in-Some c = λ s.
    let a = c.args in
    turn_for s _ _ a.k c.triple.result (operand_three (shown a.o) _ (ap option_of c.in-Some.is)) (c.triple.ensures s)

pub returns-in-None : goal.returns-in-None
returns-in-None c = λ s.
    let a = c.args in
    turn_for s _ _ a.k c.pair.result (operand_two (shown a.o) (ap option_of c.in-None.is)) (c.pair.ensures s)
