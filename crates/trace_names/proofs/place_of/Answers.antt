-- `trace_names::place_of` meets its contract. Assumes nothing.
use Rattle.std.proofs.Common.{ℕ, rules, tests, ◌∙◌}
use Rattle.std.proofs.lemmas.Iterator.{YieldsList-from_slice}
use Rattle.std.proofs.lemmas.Iterator.Search.{position_from_yields_List}
use Rattle.spec_tests.specs.Rules.{◌≡?◌, ◌or◌}
use Rattle.spec_chains.specs.Slices.{position_in_list}
use Rattle.trace_names.proofs.place_of.Goals as goal

pub returns : goal.returns
unfolding ◌or◌ ◌≡?◌
returns c =
    let fits = λ (x : ℕ). x ≡? c.args.n or x ≡? 0 in
    position_from_yields_List fits _ _ _ c.position.ensures.ran (YieldsList-from_slice c.args.held.now cc) (λ x b q k. search (rules, tests)) ∙ position_in_list fits c.args.held.now
