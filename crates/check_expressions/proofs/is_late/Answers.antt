-- `check_expressions::is_late` meets its contract. Assumes nothing.
use Rattle.spec_rules.specs.Checks.{late}
use Rattle.check_references.specs.Tests.{le_not}
use Rattle.check_expressions.proofs.is_late.Goals as goal

pub returns : goal.returns
unfolding late
returns c = le_not _ _
