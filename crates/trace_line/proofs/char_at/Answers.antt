-- `trace_line::char_at` meets its contract. Assumes nothing.
use mathlib.Core.Path.{refl}
use Rattle.trace_line.specs.Text.{char_in, char_past}
use Rattle.trace_line.proofs.char_at.Goals as goal

pub returns-then-i-line : goal.returns-then-i-line
returns-then-i-line c = char_in refl c.bit_of.ensures

pub returns : goal.returns
returns c = char_past c.args.line.now _ c.if-i-line.false
