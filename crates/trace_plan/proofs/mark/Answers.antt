-- `trace_plan::mark` meets its contract. Assumes nothing.
use mathlib.Core.Path.{refl}
use Rattle.spec_tests.specs.Laws.{pick_hit, pick_skip, lt_yes, lt_no}
use Rattle.trace_plan.proofs.mark.Goals as goal

pub returns-then-n-due : goal.returns-then-n-due
returns-then-n-due c = pick_hit _ (lt_yes _ _ c.if-n-due.true) refl

pub returns-else-n-due : goal.returns-else-n-due
returns-else-n-due c = pick_skip _ (lt_no _ _ c.if-n-due.false) refl
