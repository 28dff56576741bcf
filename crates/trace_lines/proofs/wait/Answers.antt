-- `trace_lines::wait` meets its contract. Assumes nothing.
use mathlib.Core.Path.{refl}
use Rattle.trace_lines.specs.Answers.{waits_long, waits_short}
use Rattle.trace_lines.proofs.wait.Goals as goal

pub returns-then-is_long-clause-waits : goal.returns-then-is_long-clause-waits
returns-then-is_long-clause-waits c = waits_long c.is_long.ensures c.if-is_long.true (refl, c.refuse.ensures)

pub returns-clause-waits : goal.returns-clause-waits
returns-clause-waits c = waits_short c.is_long.ensures c.if-is_long.false c.requires
