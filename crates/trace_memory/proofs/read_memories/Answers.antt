-- `trace_memory::read_memories` meets its contract. Assumes nothing.
use mathlib.Core.Path.{refl, sym, ◌∙◌}
use Rattle.trace_memory.specs.Ports.{base_none, base_more, reads_none, reads_more}
use Rattle.trace_memory.proofs.read_memories.Goals as goal

pub loop-place-init : goal.loop-place-init
loop-place-init c = (refl, (base_none c.args.net.now c.args.places.now, reads_none _ _ _ _ _))

pub loop-place-preserved : goal.loop-place-preserved
loop-place-preserved c = (c.loop-place.invariant.0 ∙ sym c.read_memory.auto.new, (base_more c.args.net.now c.args.places.now c.loop-place.place-index refl c.part-r.ensures c.loop-place.invariant.1.0 c.word_at.ensures c.word_at-in-loop-place.ensures, reads_more _ _ _ refl c.part-r.ensures c.args.memory.now c.args.old.now _ c.loop-place.invariant.1.0 c.loop-place.invariant.1.1 c.read_memory.ensures))
