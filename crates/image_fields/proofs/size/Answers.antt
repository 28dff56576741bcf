-- `image_fields::size` meets its contract. Assumes nothing.
use mathlib.Core.Path.{refl, sym}
use lib.Dec.{lit≤}
use Rattle.spec_rules.specs.Image.{size_of}
use Rattle.image_fields.specs.Fields.{size_most, size_none}
use Rattle.image_fields.proofs.size.Goals as goal

pub returns-then-k-lt7 : goal.returns-then-k-lt7
unfolding size_of
returns-then-k-lt7 c = (refl, size_most c.args.k)

pub returns-else-k-lt7 : goal.returns-else-k-lt7
returns-else-k-lt7 c = (sym (size_none _ c.if-k-lt7.false), lit≤ tt)
