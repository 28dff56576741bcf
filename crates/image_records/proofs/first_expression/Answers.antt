-- `image_records::first_expression` meets its contract. Assumes nothing.
use Rattle.spec_rules.specs.Image as image
use Rattle.image_fields.specs.Fields.{field_in}
use Rattle.image_records.specs.Expr.{expression_in}
use Rattle.image_records.proofs.first_expression.Goals as goal

pub returns : goal.returns
unfolding expression_in field_in image.size_of
returns c = cc
