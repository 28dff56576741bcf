-- `expr_range_rows::ones` meets its contract. Assumes nothing.
use Rattle.expr_range_rows.specs.Rows.{bit_len_some}
use Rattle.expr_range_rows.proofs.ones.Goals as goal

pub mask-requires : goal.mask-requires
mask-requires c = bit_len_some c.args.x c.bit_width.result c.if-x-eq0.false c.bit_width.ensures
