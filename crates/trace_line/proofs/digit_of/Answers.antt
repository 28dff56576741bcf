-- `trace_line::digit_of` meets its contract. Assumes nothing.
use Rattle.trace_line.specs.Text.{digit_yes, digit_no}
use Rattle.trace_line.proofs.digit_of.Goals as goal

pub returns-then-b : goal.returns-then-b
returns-then-b c = digit_yes _ c.if-b.true

pub returns-else-b : goal.returns-else-b
returns-else-b c = digit_no _ c.if-b.false
