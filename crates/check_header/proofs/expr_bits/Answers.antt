-- `check_header::expr_bits` meets its contract. Assumes nothing.
use Rattle.spec_rules.specs.Image.{expr_width}
use Rattle.spec_rules.specs.Checks.{expr_bits}
use Rattle.check_header.specs.Header.{field_of}
use Rattle.check_header.proofs.expr_bits.Goals as goal

pub returns : goal.returns
unfolding expr_bits field_of expr_width
returns c = c.field_sum.ensures
