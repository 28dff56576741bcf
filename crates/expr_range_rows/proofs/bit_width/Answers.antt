-- `expr_range_rows::bit_width` meets its contract. Assumes nothing.
use Rattle.expr_range_rows.specs.Rows.{bit_len_zeros}
use Rattle.std.proofs.Common.{arith}
use Rattle.expr_range_rows.proofs.bit_width.Goals as goal

pub returns : goal.returns
returns c = bit_len_zeros c.args.x (omega arith)
