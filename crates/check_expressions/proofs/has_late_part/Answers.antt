-- `check_expressions::has_late_part` meets its contract. Assumes nothing.
use Rattle.std.proofs.Common.{rules, tests, refl}
use Rattle.spec_chains.proofs.Chains.{any_by_any}
use Rattle.check_expressions.specs.Kinds.{late_word}
use Rattle.check_expressions.proofs.has_late_part.Goals as goal

pub returns : goal.returns
unfolding late_word
returns c = any_by_any c.args.count (late_word c.args.image.now c.args.r c.args.start) _ _ _ c.any.ensures.ran refl (λ x q k. search (rules, tests)) (λ x q k. search (rules, tests))
