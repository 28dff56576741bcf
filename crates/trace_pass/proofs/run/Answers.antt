-- `trace_pass::run` meets its contract. Assumes nothing.
use Rattle.trace_pass.specs.Plan.{running_start, running_ready, running_more}
use Rattle.trace_pass.specs.Coded.{ready_one, done_one}
use Rattle.trace_pass.proofs.run.Goals as goal

pub loop-step-init : goal.loop-step-init
loop-step-init c = running_start c.requires.0 c.requires.1.0 c.requires.1.1

pub take-requires : goal.take-requires
take-requires c = ready_one _ _ _ _ c.loop-step-test.true (running_ready c.loop-step.invariant c.loop-step-test.true)

pub loop-step-preserved : goal.loop-step-preserved
loop-step-preserved c = running_more c.loop-step.invariant c.loop-step-test.true (done_one _ _ _ _ c.loop-step-test.true c.take.ensures.0) c.take.ensures.1
