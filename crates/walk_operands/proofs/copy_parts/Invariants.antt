-- `walk_operands::copy_parts` meets its contract. Assumes nothing.
use Rattle.walk_operands.proofs.Ways.{PartsAt}
use Rattle.walk_operands.proofs.copy_parts.Given as goal

abbrev pub invariant-loop-i : goal.invariant-loop-i
invariant-loop-i l = PartsAt l.image l.scr l.start l.count l.initial.out l.out l.at l.i
