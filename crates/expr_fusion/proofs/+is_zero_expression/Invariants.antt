-- `expr_fusion::is_zero_expression` meet their contracts. Assumes nothing.
use Prim.Native.Nat.{◌≤◌, ◌-◌}
use Rattle.expr_fusion.specs.Fusion.{ZeroFrom}
use Rattle.expr_fusion.proofs.+is_zero_expression.Given as goal

abbrev pub invariant-loop-i : goal.invariant-loop-i
invariant-loop-i l = (l.i ≤ l.count) × ZeroFrom l.image l.e l.start l.count l.i

abbrev pub decreases-loop-i : goal.decreases-loop-i
decreases-loop-i l = l.count - l.i

abbrev pub decreases-is_zero_expression : goal.decreases-is_zero_expression
decreases-is_zero_expression l = l.e
