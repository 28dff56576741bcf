-- `walk_operands::copy_parts` meets its contract. Assumes nothing.
use native.Mathlib.Omega.{arith}
use Rattle.walk_operands.proofs.Ways.{parts_begin, parts_turn, parts_room, parts_end}
use Rattle.walk_operands.proofs.copy_parts.Goals as goal

pub loop-i-init : goal.loop-i-init
loop-i-init c = parts_begin _ _ _ _ _

pub overflow_add-start : goal.overflow_add-start
overflow_add-start c = omega (arith, c.requires.1.room, c.loop-i.invariant.below)

pub copy_whole-at-requires : goal.copy_whole-at-requires
copy_whole-at-requires c = (c.requires.0, rw c.list_word-p.ensures (c.requires.1.whole _ (omega (arith, c.loop-i.invariant.below))), rw c.list_word-p.ensures (omega (arith, parts_room _ _ _ _ _ _ _ _ (omega arith) c.loop-i.invariant, c.loop-i.invariant.long, c.requires.2)))

pub overflow_add-at : goal.overflow_add-at
overflow_add-at c = omega (arith, rw c.list_word-p.ensures at c.copy_whole-at.ensures.width, parts_room _ _ _ _ _ _ _ _ (omega arith) c.loop-i.invariant, c.requires.3)

pub loop-i-preserved : goal.loop-i-preserved
loop-i-preserved c = parts_turn _ _ _ _ _ _ _ _ _ _ (omega arith) c.loop-i.invariant c.copy_whole-at.auto.out (rw c.list_word-p.ensures at c.copy_whole-at.ensures)

pub shape_of-out : goal.shape_of-out
shape_of-out c = c.loop-i.invariant.long

pub returns : goal.returns
returns c = parts_end _ _ _ _ _ _ _ _ (omega arith) c.loop-i.invariant
