-- `expr_ranges::known_range` meets its contract. Assumes nothing.
use native.Mathlib.Omega.{arith}
use Rattle.expr_ranges.specs.Steps.{known_wide, known_of}
use Rattle.expr_range_rows.specs.Rows.{shown}
use Rattle.expr_ranges.proofs.known_range.Goals as goal

pub returns-then-expr_width-gt64 : goal.returns-then-expr_width-gt64
returns-then-expr_width-gt64 c = known_wide c.args.image.now c.args.table.now c.args.e c.requires (omega (arith, c.expr_width.ensures))

pub returns : goal.returns
returns c = known_of c.args.image.now c.args.table.now c.args.e c.requires (shown c.load_range.result) (omega (arith, c.expr_width.ensures)) c.load_range.ensures
