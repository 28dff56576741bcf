-- `stored_view::wrong_level` meets its contract. Assumes nothing.
use Rattle.spec_tests.specs.Laws.{pick_hit, pick_skip, eq_yes, eq_no}
use Rattle.spec_tests.specs.Rules.{◌<?◌, ◌≢?◌}
use Rattle.spec_netlist.specs.Accept.{wrong_level}
use mathlib.Core.Path.{refl}
use Rattle.stored_view.proofs.wrong_level.Goals as goal

pub returns-then-x-eq-ABSENT : goal.returns-then-x-eq-ABSENT
unfolding wrong_level ◌≢?◌
returns-then-x-eq-ABSENT c = pick_hit _ (eq_yes _ _ c.if-x-eq-ABSENT.true) refl

pub returns : goal.returns
unfolding wrong_level ◌<?◌
returns c = pick_skip _ (eq_no _ _ c.if-x-eq-ABSENT.false) refl
