-- `phase_register_records::push_bits` meets its contract. Assumes nothing.
use Rattle.spec_model.specs.Lowering.{register_bit}
use Rattle.image_records.specs.Others.{register_means}
use Rattle.walk_view.specs.View.{Sure, walk_state}
use Rattle.walk_view.specs.Turns.{Turning}
use Rattle.phase_register_records.specs.Registers.{bits_turn}
use Rattle.phase_register_records.proofs.push_bits.Given as goal

abbrev pub invariant-loop-b : goal.invariant-loop-b
invariant-loop-b l =
    (Turning (bits_turn l.image l.k (register_means l.x) (walk_state l.image l.initial.net l.scr)) (register_bit (register_means l.x).reset l.k (register_means l.x)) l.n l.image l.initial.net l.scr l.net l.scr l.b) × (Sure l.image l.net l.scr)
