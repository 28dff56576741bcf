-- `trace_step::is_active` meets its contract. Assumes nothing.
use Rattle.trace_step.specs.Words.{on}
use Rattle.trace_step.specs.Chains.{active_high, active_low}
use Rattle.trace_step.proofs.is_active.Goals as goal

pub returns-then-level-eq0 : goal.returns-then-level-eq0
returns-then-level-eq0 c = active_high (on c.args.values.now) _ _ c.is_on.ensures c.if-level-eq0.true

pub returns : goal.returns
returns c = active_low (on c.args.values.now) _ _ c.is_on-2.ensures c.if-level-eq0.false
