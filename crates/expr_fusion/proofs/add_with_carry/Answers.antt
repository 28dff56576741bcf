-- `expr_fusion::add_with_carry` meets its contract. Assumes nothing.
use mathlib.Core.Path.{sym}
use Rattle.expr_fusion.specs.Fusion.{operands_are}
use Rattle.expr_fusion.proofs.add_with_carry.Goals as goal

pub returns-in-Some : goal.returns-in-Some
returns-in-Some c = rw (sym c.in-Some.ensures) at (operands_are c.args.image.now c.args.lhs c.args.rhs)

pub returns-in-None : goal.returns-in-None
returns-in-None c = rw (sym c.in-None.ensures) at (operands_are c.args.image.now c.args.lhs c.args.rhs)
