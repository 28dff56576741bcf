-- `expr_fusion::carry_part` meets its contract. Assumes nothing.
use Prim.Native.Nat.{◌≤◌}
use Rattle.expr_fusion.specs.Fusion.{CarryFrom}
use Rattle.expr_fusion.proofs.carry_part.Given as goal

abbrev pub invariant-loop-i : goal.invariant-loop-i
invariant-loop-i l = (l.i ≤ l.last) × CarryFrom l.image l.start l.count l.i
