-- `stored_view::no_optional` meets its contract. Assumes nothing.
use Rattle.spec_tests.specs.Laws.{and_miss, and_skip, ne_yes, ne_no}
use Rattle.spec_netlist.specs.Accept.{no_optional}
use Rattle.stored_view.proofs.no_optional.Goals as goal

pub returns-then-x-eq-ABSENT : goal.returns-then-x-eq-ABSENT
unfolding no_optional
returns-then-x-eq-ABSENT c = and_miss _ (ne_no _ _ c.if-x-eq-ABSENT.true)

pub returns : goal.returns
unfolding no_optional
returns c = and_skip (ne_yes _ _ c.if-x-eq-ABSENT.false) c.no_net.ensures
