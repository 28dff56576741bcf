-- `trace_pass::run` meets its contract. Assumes nothing.
use lib.ListN.{length}
use Rattle.trace_pass.specs.Coded.{words_of}
use Rattle.trace_pass.specs.Plan.{Running}
use Rattle.trace_pass.proofs.run.Given as goal

abbrev pub invariant-loop-step : goal.invariant-loop-step
invariant-loop-step l = Running l.net (words_of l.steps) (length l.steps) l.initial.values l.values l.step-index
