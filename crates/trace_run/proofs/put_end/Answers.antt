-- `trace_run::put_end` meets its contract. Assumes nothing.
use Rattle.trace_run.specs.Held.{end_none, end_some}
use Rattle.trace_run.proofs.put_end.Goals as goal

pub returns-then-left-eq0 : goal.returns-then-left-eq0
returns-then-left-eq0 c = end_none _ _ c.requires c.if-left-eq0.true

pub returns : goal.returns
returns c = end_some _ _ c.if-left-eq0.false c.put_refusal.ensures
