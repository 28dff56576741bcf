-- `image_fields::name` meets its contract. Assumes nothing.
use Rattle.spec_rules.specs.Image.{name_of}
use Rattle.image_fields.proofs.name.Goals as goal

pub returns : goal.returns
unfolding name_of
returns c = cc
