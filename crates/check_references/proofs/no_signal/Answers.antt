-- `check_references::no_signal` meets its contract. Assumes nothing.
use Rattle.spec_rules.specs.Checks.{no_signal}
use Rattle.check_references.specs.Tests.{le_not}
use Rattle.check_references.proofs.no_signal.Goals as goal

pub returns : goal.returns
unfolding no_signal
returns c = rw c.count.ensures (le_not _ _)
