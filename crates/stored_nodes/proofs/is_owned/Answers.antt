-- `stored_nodes::is_owned` meets its contract. Assumes nothing.
use mathlib.Core.Path.{refl}
use native.Mathlib.Omega.{arith}
use Rattle.spec_tests.specs.Laws.{or_hit, or_skip, eq_yes, eq_no, lt_same}
use Rattle.spec_netlist.specs.Accept.{belongs}
use Rattle.stored_nodes.proofs.is_owned.Goals as goal

pub returns-then-k-eq-INPUT : goal.returns-then-k-eq-INPUT
unfolding belongs
returns-then-k-eq-INPUT c = or_hit _ (eq_yes _ _ (omega arith))

pub returns : goal.returns
unfolding belongs
returns c = or_skip (eq_no _ _ (omega arith)) (lt_same refl refl)
