-- `image_fields::signal_width` meets its contract. Assumes nothing.
use Rattle.spec_rules.specs.Image.{signal_width}
use Rattle.image_fields.proofs.signal_width.Goals as goal

pub returns : goal.returns
unfolding signal_width
returns c = c.record_field.ensures
