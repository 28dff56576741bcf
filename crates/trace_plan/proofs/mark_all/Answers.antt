-- `trace_plan::mark_all` meets its contract. Assumes nothing.
use mathlib.Core.Path.{refl, sym, ◌∙◌}
use native.Mathlib.Omega.{arith}
use Rattle.trace_plan.specs.Marked.{mark_more}
use Rattle.trace_plan.proofs.mark_all.Goals as goal

pub loop-k-preserved : goal.loop-k-preserved
loop-k-preserved c = (c.loop-k.invariant.0 ∙ sym c.mark.auto.due, (omega (arith, c.loop-k-test.true), mark_more c.loop-k.invariant.1.1 _ refl (omega (arith, c.requires.0.inside _ c.loop-k-test.true, c.loop-k.invariant.0)) _ c.mark.ensures))
