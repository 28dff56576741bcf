-- `phase_sources::reserve_registers` meets its contract. Assumes nothing.
use Rattle.spec_rules.specs.Image.{decode}
use Rattle.spec_model.specs.Lowering.{reserve_registers}
use Rattle.walk_view.specs.View.{walk_state}
use Rattle.walk_view.specs.Turns.{Turning}
use Rattle.phase_sources.specs.Reserves.{outputs_at}
use Rattle.phase_sources.proofs.reserve_registers.Given as goal

abbrev pub invariant-loop-k : goal.invariant-loop-k
invariant-loop-k l = Turning (reserve_registers (decode l.image) 0 (decode l.image).registers (walk_state l.image l.initial.net l.initial.scr)) (outputs_at l.image) l.count l.image l.initial.net l.initial.scr l.net l.scr l.k
