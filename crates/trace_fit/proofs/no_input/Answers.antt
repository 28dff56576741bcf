-- `trace_fit::no_input` meets its contract. Assumes nothing.
use Rattle.trace_fit.specs.Fit.{input_no}
use Rattle.trace_fit.proofs.no_input.Goals as goal

pub returns : goal.returns
returns c = input_no _ _ c.node_word.ensures
