-- `lower::scratch_need` meets its contract. Assumes nothing.
use native.Mathlib.Omega.{arith}
use Rattle.spec_rules.specs.Checks.{scratch_need}
use Rattle.lower.proofs.scratch_need.Goals as goal

pub returns : goal.returns
unfolding scratch_need
returns c = omega arith
