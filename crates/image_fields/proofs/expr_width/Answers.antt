-- `image_fields::expr_width` meets its contract. Assumes nothing.
use Rattle.spec_rules.specs.Image.{expr_width}
use Rattle.image_fields.proofs.expr_width.Goals as goal

pub returns : goal.returns
unfolding expr_width
returns c = c.record_field.ensures
