-- `phase_sources::reserve_memories` meets its contract. Assumes nothing.
use Rattle.spec_rules.specs.Image.{decode}
use Rattle.spec_model.specs.Lowering.{reserve_memories}
use Rattle.walk_view.specs.View.{walk_state}
use Rattle.walk_view.specs.Turns.{Turning}
use Rattle.phase_sources.specs.Reserves.{data_at}
use Rattle.phase_sources.proofs.reserve_memories.Given as goal

abbrev pub invariant-loop-k : goal.invariant-loop-k
invariant-loop-k l = Turning (reserve_memories (decode l.image) 0 (decode l.image).memories (walk_state l.image l.initial.net l.initial.scr)) (data_at l.image) l.count l.image l.initial.net l.initial.scr l.net l.scr l.k
