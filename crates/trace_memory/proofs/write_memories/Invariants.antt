-- `trace_memory::write_memories` meets its contract. Assumes nothing.
use mathlib.Core.Path.{◌≡◌}
use lib.ListN.{length}
use Rattle.trace_step.specs.Words.{base_at, memories_written}
use Rattle.trace_memory.proofs.write_memories.Given as goal

abbrev pub invariant-loop-place : goal.invariant-loop-place
invariant-loop-place l = (length l.initial.memory ≡ length l.memory) × ((l.base ≡ base_at l.net l.places l.place-index) × (l.memory ≡ memories_written l.net l.old l.new l.places l.place-index l.initial.memory))
