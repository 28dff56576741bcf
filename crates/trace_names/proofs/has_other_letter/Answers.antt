-- `trace_names::has_other_letter` meets its contract. Assumes nothing.
use Rattle.std.proofs.Common.{ℕ, rules, tests, ◌∙◌}
use Rattle.std.proofs.lemmas.Iterator.{YieldsList-from_slice}
use Rattle.std.proofs.lemmas.Iterator.Search.{any_from_yields_List}
use Rattle.spec_tests.specs.Rules.{outside}
use Rattle.trace_names.specs.Letters.{list_having}
use Rattle.trace_names.proofs.has_other_letter.Goals as goal

pub returns : goal.returns
returns c =
    let other = λ (b : ℕ). outside b 97 122 in
    any_from_yields_List other _ _ _ c.any.ensures.ran (YieldsList-from_slice c.args.name.now cc) (λ x b q k. search (rules, tests)) ∙ list_having other c.args.name.now
