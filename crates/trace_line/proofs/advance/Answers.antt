-- `trace_line::advance` meets its contract. Assumes nothing.
use Rattle.trace_clash.specs.Words.{addressed}
use Rattle.trace_line.specs.State.{memories_fit}
use Rattle.trace_line.proofs.Standing.{clash_taken, advance_ready, advance_taken}
use Rattle.trace_line.proofs.advance.Goals as goal

pub lowest_clash-requires : goal.lowest_clash-requires
lowest_clash-requires c = addressed (memories_fit c.requires.0.0.prepared)

pub returns-in-Some-clause-takes : goal.returns-in-Some-clause-takes
returns-in-Some-clause-takes c = clash_taken c.requires.0.0 c.args.line.now c.requires.1 c.copy_from_slice.ensures.after c.load_line.ensures c.in-Some.ensures.lowest c.in-Some.ensures.memory _ _

pub read_memories-requires : goal.read_memories-requires
read_memories-requires c = memories_fit c.requires.0.0.prepared

pub write_memories-requires : goal.write_memories-requires
write_memories-requires c = (memories_fit c.requires.0.0.prepared, c.requires.0.0.sized.room)

pub run-requires : goal.run-requires
run-requires c = advance_ready c.requires.0.0 c.args.line.now c.requires.1 c.copy_from_slice.ensures.after c.load_line.ensures c.in_default.ensures.lowest c.load_registers.ensures c.read_memories.ensures c.write_memories.ensures

pub returns-clause-takes : goal.returns-clause-takes
returns-clause-takes c = advance_taken c.requires.0.0 c.args.line.now c.requires.1 c.copy_from_slice.ensures.after c.load_line.ensures c.in_default.ensures.lowest c.load_registers.ensures c.read_memories.ensures c.write_memories.ensures c.run.ensures c.run.auto.values
