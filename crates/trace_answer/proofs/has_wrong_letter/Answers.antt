-- `trace_answer::has_wrong_letter` meets its contract. Assumes nothing.
use Rattle.std.proofs.Common.{ℕ, rules, tests, ◌∙◌}
use Rattle.std.proofs.lemmas.Iterator.{YieldsList-from_slice}
use Rattle.std.proofs.lemmas.Iterator.Search.{any_from_yields_List}
use Rattle.spec_tests.specs.Rules.{◌≢?◌, ◌and◌}
use Rattle.trace_names.specs.Letters.{list_having}
use Rattle.trace_answer.proofs.has_wrong_letter.Goals as goal

pub returns : goal.returns
returns c =
    let wrong = λ (b : ℕ). b ≢? 48 and b ≢? 49 in
    any_from_yields_List wrong _ _ _ c.any.ensures.ran (YieldsList-from_slice c.args.line.now cc) (λ x b q k. search (rules, tests)) ∙ list_having wrong c.args.line.now
