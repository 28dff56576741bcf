-- `expr_range_rows::constant_difference` meets its contract. Assumes nothing.
use Rattle.std.proofs.Common.{ap, ◌∙◌, arith}
use lib.Bits.{bit_and, and_mask}
use Rattle.expr_range_rows.specs.Rows.{difference_law}
use Rattle.expr_range_rows.proofs.constant_difference.Goals as goal

pub returns : goal.returns
returns c = ap (bit_and c.wrapping_sub_u64.result) c.mask.ensures ∙ and_mask _ c.args.width ∙ difference_law c.wrapping_sub_u64.result c.args.a c.args.b c.args.width (omega arith) (omega arith) c.wrapping_sub_u64.ensures.value
