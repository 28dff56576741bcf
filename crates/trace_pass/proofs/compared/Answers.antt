-- `trace_pass::compared` meets its contract. Assumes nothing.
use Rattle.trace_pass.specs.Plan.{compared_set}
use Rattle.trace_pass.proofs.compared.Goals as goal

pub returns : goal.returns
returns c = compared_set _ c.args.r.now _ _ c.comparison_cell-b.ensures c.requires.1.1
