-- `image_records::assignment_at` meets its contract. Assumes nothing.
use Rattle.spec_rules.specs.Image.{field, assign_at}
use Rattle.image_fields.specs.Fields.{field_in}
use Rattle.image_records.specs.Others.{assignment_means}
use Rattle.image_records.proofs.assignment_at.Goals as goal

pub returns : goal.returns
unfolding assignment_means assign_at field field_in
returns c = cc
