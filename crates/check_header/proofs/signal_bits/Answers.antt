-- `check_header::signal_bits` meets its contract. Assumes nothing.
use Rattle.spec_rules.specs.Image.{signal_width}
use Rattle.spec_rules.specs.Checks.{signal_bits}
use Rattle.check_header.specs.Header.{field_of}
use Rattle.check_header.proofs.signal_bits.Goals as goal

pub returns : goal.returns
unfolding signal_bits field_of signal_width
returns c = c.field_sum.ensures
