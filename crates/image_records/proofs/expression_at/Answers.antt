-- `image_records::expression_at` meets its contract. Assumes nothing.
use Rattle.image_records.specs.Expr.{expression_of, decoded}
use Rattle.image_records.proofs.expression_at.Goals as goal

pub returns : goal.returns
unfolding expression_of
returns c = decoded _ _ _ (cc)
