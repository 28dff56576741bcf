-- `trace_run::has_room` meets its contract. Assumes nothing.
use mathlib.Core.Path.{sym, ap}
use mathlib.Core.Bool.{not}
use native.Mathlib.Omega.{arith}
use Rattle.spec_tests.specs.Laws.{lt_yes, lt_no}
use Rattle.trace_run.proofs.has_room.Goals as goal

pub returns-then-out-at-lt42 : goal.returns-then-out-at-lt42
returns-then-out-at-lt42 c = sym (ap not (lt_yes _ _ (omega (arith, c.if-out-at-lt42.true))))

pub returns-then-out-at : goal.returns-then-out-at
returns-then-out-at c = sym (ap not (lt_yes _ _ (omega (arith, c.if-out-at.true))))

pub returns : goal.returns
returns c = sym (ap not (lt_no _ _ (omega (arith, c.if-out-at.false, c.if-out-at-lt42.false))))
