-- `stored_records::above_carry` meets its contract. Assumes nothing.
use mathlib.Core.Path.{refl}
use native.Mathlib.Omega.{arith}
use Rattle.spec_tests.specs.Laws.{pick_hit, pick_skip, eq_yes, eq_no}
use Rattle.stored_records.specs.Above.{above_carry}
use Rattle.stored_records.proofs.above_carry.Goals as goal

pub returns-then-c-eq-ABSENT : goal.returns-then-c-eq-ABSENT
unfolding above_carry
returns-then-c-eq-ABSENT c = (pick_hit _ (eq_yes _ _ c.if-c-eq-ABSENT.true) refl, omega arith)

pub returns : goal.returns
unfolding above_carry
returns c = (pick_skip _ (eq_no _ _ c.if-c-eq-ABSENT.false) refl, omega arith)
