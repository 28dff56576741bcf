-- `trace_plan::make_plan` meets its contract. Assumes nothing.
use mathlib.Core.Path.{refl}
use native.Mathlib.Omega.{arith}
use Rattle.trace_plan.specs.Meeting.{cleared_start, plan_end}
use Rattle.trace_pass.specs.Coded.{words_long}
use Rattle.trace_plan.proofs.make_plan.Goals as goal

pub loop-k-init : goal.loop-k-init
loop-k-init c = (refl, (refl, (omega arith, cleared_start _ _ _ (rw c.word_at-count.ensures at c.clear.ensures))))

pub plan_net-n-requires : goal.plan_net-n-requires
plan_net-n-requires c = (record { ok = c.requires.0; building = c.loop-k.invariant.1.1.1; there = omega (arith, c.loop-k-test.true, c.word_at-count.ensures); wide = omega (arith, c.requires.3, c.loop-k.invariant.0, c.clear.auto.due); long = omega (arith, c.requires.4, c.loop-k.invariant.1.0, words_long c.loop-k.steps) }, c.requires.1, c.requires.2)

pub returns : goal.returns
returns c = plan_end _ c.loop-k.invariant.1.1.1 (omega (arith, c.loop-k-test.false, c.word_at-count.ensures)) (omega (arith, c.requires.4, c.loop-k.invariant.1.0))
