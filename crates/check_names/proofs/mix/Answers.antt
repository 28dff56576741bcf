-- `check_names::mix` meets its contract. Assumes nothing.
use mathlib.Core.Path.{refl}
use Rattle.check_names.specs.Names.{mixed}
use Rattle.check_names.proofs.mix.Goals as goal

pub returns : goal.returns
unfolding mixed
returns c = refl
