-- `trace_pass::choose` meets its contract. Assumes nothing.
use mathlib.Core.Path.{refl}
use native.Mathlib.Omega.{arith}
use Rattle.trace_pass.specs.Plan.{chosen}
use Rattle.trace_pass.proofs.choose.Goals as goal

pub returns : goal.returns
unfolding chosen
returns c = (refl, omega arith)
