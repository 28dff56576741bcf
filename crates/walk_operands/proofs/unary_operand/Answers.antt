-- `walk_operands::unary_operand` meets its contract. Assumes nothing.
use native.Mathlib.Omega.{arith}
use Rattle.walk_operands.proofs.Ways.{unary_read}
use Rattle.walk_operands.proofs.unary_operand.Goals as goal

pub copy_whole-k-requires : goal.copy_whole-k-requires
copy_whole-k-requires c = (c.requires.0, c.requires.1, omega (arith, c.requires.5))

pub returns : goal.returns
returns c = unary_read _ _ c.requires.0 _ _ _ _ _ _ _ c.requires.1 c.requires.2 c.requires.3 c.requires.4 c.requires.5 c.copy_whole-k.ensures
