-- `image_records::BinaryOpFromU32::from` meets its contract. Assumes nothing.
use mathlib.Core.Path.{refl, sym}
use lib.ListN.{get_or-eq_default}
use Rattle.image_records.specs.Expr.{binary_of, binaries}
use Rattle.image_records.specs.declared.BinaryOp.TheVariants.{And}
use Rattle.image_records.proofs.BinaryOpFromU32.from.Goals as goal

pub returns-then-n-lt19 : goal.returns-then-n-lt19
unfolding binary_of
returns-then-n-lt19 c = refl

pub returns-else-n-lt19 : goal.returns-else-n-lt19
unfolding binary_of
returns-else-n-lt19 c = sym (get_or-eq_default binaries And c.if-n-lt19.false)
