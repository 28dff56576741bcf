-- `check_references::no_expr` meets its contract. Assumes nothing.
use Rattle.spec_rules.specs.Checks.{no_expr}
use Rattle.check_references.specs.Tests.{le_not}
use Rattle.check_references.proofs.no_expr.Goals as goal

pub returns : goal.returns
unfolding no_expr
returns c = rw c.count.ensures (le_not _ _)
