-- `scratch_tables::expr_place` meets its contract: the place from the fixed words and the first bit of the expression. Assumes nothing.
use native.Mathlib.Omega.{arith}
use Rattle.scratch_view.specs.Laws.{expr_ends}
use Rattle.scratch_tables.proofs.Ways.{start_word}
use Rattle.scratch_tables.proofs.expr_place.Goals as goal

pub returns : goal.returns
returns c =
    let f = start_word c.args.image.now c.args.scr.now c.requires.0 c.args.e c.requires.1 in
    record { at = omega arith; ends = expr_ends c.args.image.now c.args.e c.requires.1 }
