-- `check_names::name_taken` meets its contract. Assumes nothing.
use Rattle.std.proofs.Common.{rules, tests, refl, sym, ◌∙◌}
use Rattle.spec_chains.proofs.Chains.{any_by_any}
use Rattle.check_names.specs.Names.{same_name, taken_from}
use Rattle.check_names.proofs.name_taken.Goals as goal

pub returns : goal.returns
returns c =
    any_by_any c.args.r (same_name c.args.image.now c.args.k c.args.r) _ _ _ c.any.ensures.ran refl (λ x q k. search (rules, tests)) (λ x q k. search (rules, tests))
    ∙ sym (taken_from _ _ _)
