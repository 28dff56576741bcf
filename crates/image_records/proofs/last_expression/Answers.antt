-- `image_records::last_expression` meets its contract. Assumes nothing.
use Rattle.image_records.specs.Expr.{expression_in}
use Rattle.image_records.proofs.last_expression.Goals as goal

pub returns : goal.returns
unfolding expression_in
returns c = cc
