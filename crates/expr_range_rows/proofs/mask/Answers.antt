-- `expr_range_rows::mask` meets its contract. Assumes nothing.
use Rattle.expr_range_rows.specs.Rows.{mask_law}
use Rattle.expr_range_rows.proofs.mask.Goals as goal

pub returns : goal.returns
returns c = mask_law c.args.width c.requires.1
