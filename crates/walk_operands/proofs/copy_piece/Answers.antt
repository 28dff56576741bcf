-- `walk_operands::copy_piece` meets its contract. Assumes nothing.
use native.Mathlib.Omega.{arith}
use Rattle.walk_operands.proofs.RangeWays.{piece_inside, piece_some, piece_none}
use Rattle.walk_operands.proofs.copy_piece.Goals as goal

pub overflow_add-at : goal.overflow_add-at
overflow_add-at c = omega (arith, c.expr_width-k.ensures, c.requires.0.image.expr_most _ c.requires.1, c.requires.2)

pub overflow_sub-lo : goal.overflow_sub-lo
overflow_sub-lo c = omega (arith, c.max-lo.ensures)

pub copy_range-requires : goal.copy_range-requires
copy_range-requires c = (c.requires.0, c.requires.1, piece_inside c.args.image.now c.args.scr.now c.args.p c.args.at c.args.lsb c.args.end c.args.out.now c.args.to _ _ _ c.requires.1 c.expr_width-k.ensures c.max-lo.ensures c.min-hi.ensures (omega arith), rw (c.max-lo.ensures, c.min-hi.ensures, c.expr_width-k.ensures) c.requires.4)

pub returns-then-lo-hi : goal.returns-then-lo-hi
returns-then-lo-hi c = piece_some _ _ _ _ _ _ _ _ _ _ _ c.requires.1 c.expr_width-k.ensures c.max-lo.ensures c.min-hi.ensures _ (omega arith) (omega (arith, c.requires.4)) c.copy_range.ensures

pub returns : goal.returns
returns c = piece_none _ _ _ _ _ _ _ _ _ _ _ c.requires.1 c.expr_width-k.ensures c.max-lo.ensures c.min-hi.ensures (omega arith)
