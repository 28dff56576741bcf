-- `stored_check::is_left` meets its contract. Assumes nothing.
use mathlib.Core.Path.{ap}
use mathlib.Core.Bool.{not}
use Rattle.spec_tests.specs.Laws.{and_miss, and_skip}
use Rattle.spec_tests.specs.Rules.{◌≢?◌}
use Rattle.spec_netlist.specs.Accept.{alone}
use Rattle.stored_check.specs.Stages.{kind_other, kind_owned}
use Rattle.stored_check.proofs.is_left.Goals as goal

pub returns-then-not-is_owned : goal.returns-then-not-is_owned
unfolding alone
returns-then-not-is_owned c = and_miss _ (kind_other _ _ c.requires.0 c.is_owned.ensures (ap not c.if-not-is_owned.true))

pub returns : goal.returns
unfolding alone ◌≢?◌
returns c =
    and_skip (kind_owned _ _ c.requires.0 c.is_owned.ensures (ap not c.if-not-is_owned.false)) (ap not (c.requires.2.says _ c.requires.3))
