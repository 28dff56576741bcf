-- `walk_operands::copy_pieces` meets its contract. Assumes nothing.
use Rattle.walk_operands.proofs.RangeWays.{PiecesAt}
use Rattle.walk_operands.proofs.copy_pieces.Given as goal

abbrev pub invariant-loop-i : goal.invariant-loop-i
invariant-loop-i l = PiecesAt l.image l.scr l.start l.count l.lsb l.n l.initial.out l.out l.at l.to l.i
