-- `walk_operands::mux_operands` meets its contract. Assumes nothing.
use native.Mathlib.Omega.{arith}
use Rattle.walk_operands.proofs.Ways.{mux_read}
use Rattle.walk_operands.proofs.mux_operands.Goals as goal

pub expr_net-k-requires : goal.expr_net-k-requires
expr_net-k-requires c = (c.requires.0, c.requires.1.condition.there, c.requires.0.image.expr_some _ c.requires.1.condition.there)

pub copy_whole-requires : goal.copy_whole-requires
copy_whole-requires c = (c.requires.0, c.requires.1.left, omega (arith, c.requires.1.left_wide, c.requires.3))

pub copy_whole-requires-2 : goal.copy_whole-requires-2
copy_whole-requires-2 c = (c.requires.0, c.requires.1.right, omega (arith, c.requires.1.right_wide, c.requires.3, c.requires.4))

pub returns : goal.returns
returns c = mux_read _ _ c.requires.0 _ _ _ _ _ _ _ _ _ _ _ _ c.requires.1 c.requires.2 c.requires.3 c.expr_net-k.ensures.whole c.copy_whole.ensures c.copy_whole-2.ensures
