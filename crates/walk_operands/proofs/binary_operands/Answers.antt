-- `walk_operands::binary_operands` meets its contract. Assumes nothing.
use native.Mathlib.Omega.{arith}
use Rattle.walk_operands.proofs.Ways.{binary_read}
use Rattle.walk_operands.proofs.binary_operands.Goals as goal

pub copy_whole-j-requires : goal.copy_whole-j-requires
copy_whole-j-requires c = (c.requires.0, c.requires.1, omega (arith, c.requires.6))

pub copy_whole-k-requires : goal.copy_whole-k-requires
copy_whole-k-requires c = (c.requires.0, c.requires.2, omega (arith, c.requires.7, c.requires.8))

pub returns : goal.returns
returns c = binary_read _ _ c.requires.0 _ _ _ _ _ _ _ _ _ _ _ c.requires.1 c.requires.2 c.requires.3 c.requires.4 c.requires.5 c.requires.6 c.requires.7 c.copy_whole-j.ensures c.copy_whole-k.ensures
