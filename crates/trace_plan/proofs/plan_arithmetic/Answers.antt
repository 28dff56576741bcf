-- `trace_plan::plan_arithmetic` meets its contract. Assumes nothing.
use native.Mathlib.Omega.{arith}
use Rattle.trace_plan.specs.Building.{pushed_step}
use Rattle.trace_plan.specs.Meeting.{room_of}
use Rattle.trace_plan.specs.Cells.{arithmetic_at, arithmetic_built, arithmetic_nets_law, outs_read}
use Rattle.trace_plan.proofs.plan_arithmetic.Goals as goal

pub mark_all-requires : goal.mark_all-requires
mark_all-requires c = (arithmetic_nets_law (arithmetic_at _ c.requires.0.ok c.requires.2.places _ c.requires.0.there c.requires.1 _ (rw c.node_word.ensures at c.word_at-place.ensures)) _ (outs_read c.part-r.ensures c.word_at-w.ensures c.stretch.ensures) _ c.requires.0.wide, omega (arith, c.requires.0.building.few, c.requires.0.there, c.requires.0.few))

pub returns : goal.returns
returns c = arithmetic_built c.requires.0.ok (arithmetic_at _ c.requires.0.ok c.requires.2.places _ c.requires.0.there c.requires.1 _ (rw c.node_word.ensures at c.word_at-place.ensures)) c.requires.0.building c.requires.0.there (outs_read c.part-r.ensures c.word_at-w.ensures c.stretch.ensures) c.mark_all.ensures (pushed_step _ _ _ (room_of _ c.requires.0))

pub bounds-steps-n : goal.bounds-steps-n
bounds-steps-n c = room_of _ c.requires.0
