-- `trace_step::is_enabled` meets its contract. Assumes nothing.
use Rattle.trace_step.specs.Words.{on}
use Rattle.trace_step.specs.Chains.{enabled_absent, enabled_there}
use Rattle.trace_step.proofs.is_enabled.Goals as goal

pub returns-then-x-eq-ABSENT : goal.returns-then-x-eq-ABSENT
returns-then-x-eq-ABSENT c = enabled_absent (on c.args.values.now) _ _ c.if-x-eq-ABSENT.true

pub returns : goal.returns
returns c = enabled_there (on c.args.values.now) _ _ c.if-x-eq-ABSENT.false c.is_active.ensures
