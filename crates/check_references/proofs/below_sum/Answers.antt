-- `check_references::below_sum` meets its contract. Assumes nothing.
use mathlib.Core.Path.{refl}
use Rattle.spec_tests.specs.Rules.{◌<?◌}
use Rattle.check_references.proofs.below_sum.Goals as goal

pub returns : goal.returns
unfolding ◌<?◌
returns c = refl
