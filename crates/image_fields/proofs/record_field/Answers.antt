-- `image_fields::record_field` meets its contract. Assumes nothing.
use Rattle.spec_rules.specs.Image.{field}
use Rattle.image_fields.specs.Fields.{field_in}
use Rattle.image_fields.proofs.record_field.Goals as goal

pub returns : goal.returns
unfolding field field_in
returns c = cc
