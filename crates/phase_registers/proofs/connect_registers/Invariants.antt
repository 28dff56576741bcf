-- `phase_registers::connect_registers` meets its contract. Assumes nothing.
use mathlib.Core.Bool.{false}
use Prim.Native.Nat.{◌-◌}
use Rattle.spec_rules.specs.Image.{decode}
use Rattle.spec_model.specs.Lowering.{connect_registers}
use Rattle.walk_view.specs.View.{walk_state, Sure}
use Rattle.walk_view.specs.Turns.{Turning}
use Rattle.phase_registers.specs.Turns.{register_turn}
use Rattle.phase_registers.proofs.connect_registers.Given as goal

abbrev pub invariant-loop-k : goal.invariant-loop-k
invariant-loop-k l =
    (Turning (connect_registers (decode l.image) false 0 (decode l.image).registers (walk_state l.image l.initial.net l.initial.scr)) (register_turn l.image) l.n l.image l.initial.net l.initial.scr l.net l.scr l.k) × (Sure l.image l.net l.scr)
