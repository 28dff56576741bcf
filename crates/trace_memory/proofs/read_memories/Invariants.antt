-- `trace_memory::read_memories` meets its contract. Assumes nothing.
use mathlib.Core.Path.{◌≡◌}
use lib.ListN.{length}
use Rattle.trace_step.specs.Words.{base_at, memories_read}
use Rattle.trace_memory.proofs.read_memories.Given as goal

abbrev pub invariant-loop-place : goal.invariant-loop-place
invariant-loop-place l = (length l.initial.new ≡ length l.new) × ((l.base ≡ base_at l.net l.places l.place-index) × (l.new ≡ memories_read l.net l.memory l.old l.places l.place-index l.initial.new))
