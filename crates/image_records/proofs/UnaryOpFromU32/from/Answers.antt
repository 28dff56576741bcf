-- `image_records::UnaryOpFromU32::from` meets its contract. Assumes nothing.
use mathlib.Core.Path.{refl, sym}
use lib.ListN.{get_or-eq_default}
use Rattle.image_records.specs.Expr.{unary_of, unaries}
use Rattle.image_records.specs.declared.UnaryOp.TheVariants.{BitNot}
use Rattle.image_records.proofs.UnaryOpFromU32.from.Goals as goal

pub returns-then-n-lt5 : goal.returns-then-n-lt5
unfolding unary_of
returns-then-n-lt5 c = refl

pub returns-else-n-lt5 : goal.returns-else-n-lt5
unfolding unary_of
returns-else-n-lt5 c = sym (get_or-eq_default unaries BitNot c.if-n-lt5.false)
