-- `check_header::most` meets its contract. Assumes nothing.
use mathlib.Core.Path.{refl}
use Rattle.spec_rules.specs.Image.{most_of}
use Rattle.check_header.proofs.most.Goals as goal

pub returns : goal.returns
unfolding most_of
returns c = refl
