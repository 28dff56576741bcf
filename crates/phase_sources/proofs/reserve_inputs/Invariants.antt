-- `phase_sources::reserve_inputs` meets its contract. Assumes nothing.
use Rattle.spec_rules.specs.Image.{decode}
use Rattle.spec_model.specs.Lowering.{reserve_inputs}
use Rattle.walk_view.specs.View.{walk_state}
use Rattle.walk_view.specs.Turns.{Turning}
use Rattle.phase_sources.specs.Reserves.{input_at}
use Rattle.phase_sources.proofs.reserve_inputs.Given as goal

abbrev pub invariant-loop-p : goal.invariant-loop-p
invariant-loop-p l = Turning (reserve_inputs 0 (decode l.image).signals (walk_state l.image l.initial.net l.initial.scr)) (input_at l.image) l.count l.image l.initial.net l.initial.scr l.net l.scr l.p
