-- `op_lower::logic_not` meets its contract. Assumes nothing.
use mathlib.Core.Bool.{false}
use native.Mathlib.Omega.{arith}
use Rattle.op_lower.proofs.logic_not.Goals as goal

pub not_first-requires : goal.not_first-requires
not_first-requires c = ((c.reduce_tree.ensures false).held, omega (arith, c.reduce_tree.auto.xs))
