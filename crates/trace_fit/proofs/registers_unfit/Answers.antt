-- `trace_fit::registers_unfit` meets its contract. Assumes nothing.
use Rattle.std.proofs.Common.{ℕ, rules, tests, ◌∙◌, drop}
use Rattle.std.proofs.lemmas.Iterator.{YieldsList-from_slice}
use Rattle.std.proofs.lemmas.Iterator.Search.{any_from_yields_List}
use Rattle.spec_trace.specs.Opened.{register_unfit}
use Rattle.spec_chains.specs.Slices.{any_in_list}
use Rattle.trace_fit.proofs.registers_unfit.Goals as goal

pub returns : goal.returns
returns c =
    let unfit = λ (a : ℕ). register_unfit c.args.net.now (drop a c.args.net.now) in
    any_from_yields_List unfit _ _ _ c.any.ensures.ran (YieldsList-from_slice c.args.places.now cc) (λ x b q k. search (rules, tests)) ∙ any_in_list unfit c.args.places.now
