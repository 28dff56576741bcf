-- `trace_plan::plan_gate` meets its contract. Assumes nothing.
use mathlib.Core.Path.{refl}
use native.Mathlib.Omega.{arith}
use Rattle.trace_plan.specs.Kinds.{gate_built}
use Rattle.trace_plan.specs.Meeting.{room_of}
use Rattle.trace_plan.specs.Building.{pushed_step}
use Rattle.trace_plan.proofs.plan_gate.Goals as goal

pub returns : goal.returns
returns c = gate_built c.requires.0.ok c.requires.0.building c.requires.0.there (omega (arith, c.requires.0.there, c.requires.0.wide)) c.requires.0.unmet c.requires.1 refl (rw (c.node_word.ensures, c.node_word-2.ensures) at c.table_of-table.ensures.0) c.table_of-table.ensures.1 (rw c.node_word-3.ensures at c.lower_net-x.ensures) (rw c.node_word-4.ensures at c.lower_net-y.ensures) (rw c.node_word-5.ensures at c.lower_net-z.ensures) (pushed_step _ _ _ (room_of _ c.requires.0))

pub bounds-steps-n : goal.bounds-steps-n
bounds-steps-n c = room_of _ c.requires.0
