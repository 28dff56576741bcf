-- `phase_outputs::connect_outputs` meets its contract. Assumes nothing.
use mathlib.Core.Bool.{false}
use Prim.Native.Nat.{◌-◌}
use Rattle.spec_rules.specs.Image.{decode}
use Rattle.spec_model.specs.Lowering.{connect_outputs}
use Rattle.walk_view.specs.View.{walk_state, Sure}
use Rattle.walk_view.specs.Turns.{Turning}
use Rattle.phase_outputs.specs.Outputs.{output_turn}
use Rattle.phase_outputs.proofs.connect_outputs.Given as goal

abbrev pub invariant-loop-p : goal.invariant-loop-p
invariant-loop-p l =
    (Turning (connect_outputs (decode l.image) false 0 (decode l.image).signals (walk_state l.image l.initial.net l.initial.scr)) (output_turn l.image) l.n l.image l.initial.net l.initial.scr l.net l.scr l.p) × (Sure l.image l.net l.scr)
