-- `expr_range_rows::constant_sum` meets its contract. Assumes nothing.
use Rattle.std.proofs.Common.{◌∙◌, ap₂}
use lib.Bits.{bit_and, and_mask}
use Rattle.expr_range_rows.proofs.constant_sum.Goals as goal

pub returns : goal.returns
returns c = ap₂ bit_and c.wrapping_add_u64.ensures.value c.mask.ensures ∙ and_mask _ c.args.width
