-- `trace_plan::plan_comparison` meets its contract. Assumes nothing.
use mathlib.Core.Path.{refl}
use native.Mathlib.Omega.{arith}
use Rattle.trace_plan.specs.Building.{pushed_step}
use Rattle.trace_plan.specs.Meeting.{room_of}
use Rattle.trace_plan.specs.Cells.{comparison_at, comparison_built}
use Rattle.trace_plan.proofs.plan_comparison.Goals as goal

pub returns : goal.returns
returns c = comparison_built c.requires.0.ok (comparison_at _ c.requires.0.ok c.requires.2.places _ c.requires.0.there c.requires.1 _ (rw c.node_word.ensures at c.word_at-place.ensures)) c.requires.0.building c.requires.0.there (omega (arith, c.requires.0.there, c.requires.0.wide)) c.requires.0.unmet refl (pushed_step _ _ _ (room_of _ c.requires.0))

pub bounds-steps-n : goal.bounds-steps-n
bounds-steps-n c = room_of _ c.requires.0
