-- `trace_line::take_line` meets its contract. Assumes nothing.
use Rattle.trace_line.specs.Standing.{taken_first}
use Rattle.trace_line.proofs.take_line.Goals as goal

pub returns-then-k-eq0-clause-takes : goal.returns-then-k-eq0-clause-takes
returns-then-k-eq0-clause-takes c = taken_first c.requires.0 c.if-k-eq0.true c.begin.ensures.goes
