-- `check_references::not_zero` meets its contract. Assumes nothing.
use Rattle.std.proofs.Common.{rules, tests, refl}
use Rattle.spec_tests.specs.Rules.{◌≢?◌}
use Rattle.spec_rules.specs.Checks.{not_zero}
use Rattle.spec_chains.proofs.Chains.{any_by_any}
use Rattle.check_references.specs.Tests.{non_zero}
use Rattle.check_references.proofs.not_zero.Goals as goal

pub returns : goal.returns
unfolding not_zero non_zero ◌≢?◌
returns c = any_by_any c.args.n (non_zero c.args.image.now c.args.k c.args.r c.args.f) _ _ _ c.any.ensures.ran refl (λ x q k. search (rules, tests)) (λ x q k. search (rules, tests))
