-- `image_fields::section` meets its contract. Assumes nothing.
use Rattle.spec_rules.specs.Image.{part}
use Rattle.image_fields.proofs.section.Goals as goal

pub returns : goal.returns
unfolding part
returns c = cc
