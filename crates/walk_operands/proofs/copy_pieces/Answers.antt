-- `walk_operands::copy_pieces` meets its contract. Assumes nothing.
use native.Mathlib.Omega.{arith}
use Rattle.walk_operands.proofs.RangeWays.{pieces_begin, piece_room, piece_place, pieces_turn, pieces_end}
use Rattle.walk_operands.proofs.copy_pieces.Goals as goal

pub overflow_add-end : goal.overflow_add-end
overflow_add-end c = omega (arith, c.requires.2, c.requires.3)

pub loop-i-init : goal.loop-i-init
loop-i-init c = pieces_begin _ _ _ _ _ _ _

pub overflow_add-start : goal.overflow_add-start
overflow_add-start c = omega (arith, c.requires.1.room, c.loop-i.invariant.below)

pub copy_piece-to-requires : goal.copy_piece-to-requires
copy_piece-to-requires c =
    let some = c.loop-i-test.true in
    let pl = piece_place _ _ _ _ _ _ _ _ _ _ _ some c.loop-i.invariant in (
      c.requires.0,
      rw c.list_word-p.ensures (c.requires.1.there _ (omega (arith, c.loop-i.invariant.below))),
      omega (arith, pl.0, c.requires.3),
      omega (arith, c.requires.2, c.requires.3),
      rw c.list_word-p.ensures (omega (arith, piece_room _ _ _ _ _ _ _ _ _ _ _ some c.loop-i.invariant (omega (arith, c.requires.2, c.requires.3)), c.loop-i.invariant.long, c.requires.4, c.requires.2, c.requires.3)),
    )

pub overflow_add-to : goal.overflow_add-to
overflow_add-to c =
    let r = piece_room _ _ _ _ _ _ _ _ _ _ _ c.loop-i-test.true c.loop-i.invariant (omega (arith, c.requires.2, c.requires.3)) in
    omega (arith, r, rw c.list_word-p.ensures at c.copy_piece-to.ensures.width, c.requires.2, c.requires.3)

pub overflow_add-at : goal.overflow_add-at
overflow_add-at c = omega (arith, rw c.list_word-p.ensures at c.expr_width-at.ensures, (piece_place _ _ _ _ _ _ _ _ _ _ _ c.loop-i-test.true c.loop-i.invariant).1, c.requires.3)

pub loop-i-preserved : goal.loop-i-preserved
loop-i-preserved c = pieces_turn _ _ _ _ _ _ _ _ _ _ _ c.loop-i-test.true c.loop-i.invariant _ _ _ c.requires.1 c.copy_piece-to.auto.out (rw c.list_word-p.ensures at c.expr_width-at.ensures) (rw c.list_word-p.ensures at c.copy_piece-to.ensures)

pub shape_of-out : goal.shape_of-out
shape_of-out c = c.loop-i.invariant.long

pub returns : goal.returns
returns c = pieces_end _ _ _ _ _ _ _ _ _ _ _ (omega arith) c.requires.2 c.loop-i.invariant
