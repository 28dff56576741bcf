-- `trace_plan::lower_net` meets its contract. Assumes nothing.
use mathlib.Core.Path.{refl}
use Rattle.spec_tests.specs.Laws.{pick_hit, pick_skip, lt_yes, lt_no}
use Rattle.trace_plan.proofs.lower_net.Goals as goal

pub returns-then-x-k : goal.returns-then-x-k
returns-then-x-k c = pick_hit _ (lt_yes _ _ c.if-x-k.true) refl

pub returns-else-x-k : goal.returns-else-x-k
returns-else-x-k c = pick_skip _ (lt_no _ _ c.if-x-k.false) refl
