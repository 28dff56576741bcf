-- `walk_operands::copy_whole` meets its contract. Assumes nothing.
use Rattle.walk_operands.proofs.Ways.{whole_copied}
use Rattle.walk_operands.proofs.copy_whole.Goals as goal

pub returns : goal.returns
returns c =
    whole_copied _ _ _ _ _ _ _ c.requires.1 c.requires.2 c.expr_width-k.ensures c.copy_range.ensures
