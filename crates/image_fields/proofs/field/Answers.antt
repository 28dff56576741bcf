-- `image_fields::field` meets its contract. Assumes nothing.
use Rattle.image_fields.specs.Fields.{field_in}
use Rattle.image_fields.proofs.field.Goals as goal

pub returns : goal.returns
unfolding field_in
returns c = cc
