-- `trace_memory::write_port` meets its contract. Assumes nothing.
use mathlib.Core.Bool.{not}
use mathlib.Core.Path.{ap}
use Rattle.trace_memory.specs.Ports.{write_data_is, write_shut, write_past, write_word}
use Rattle.trace_memory.proofs.write_port.Goals as goal

pub returns-then-not-is_writing : goal.returns-then-not-is_writing
returns-then-not-is_writing c = write_shut _ _ _ c.args.p.now c.args.old.now c.args.new.now c.args.memory.now c.is_writing.ensures (ap not c.if-not-is_writing.true)

pub returns-then-depth-a : goal.returns-then-depth-a
returns-then-depth-a c = write_past _ _ _ c.args.p.now c.args.old.now c.args.new.now c.args.memory.now c.is_writing.ensures (ap not c.if-not-is_writing.false) c.write_address-a.ensures.0 c.if-depth-a.true

pub returns : goal.returns
returns c = write_word _ _ _ c.args.p.now c.args.old.now c.args.new.now c.args.memory.now c.is_writing.ensures (ap not c.if-not-is_writing.false) c.write_address-a.ensures.0 c.if-depth-a.false (write_data_is c.args.p.now c.word_at.ensures c.word_at-2.ensures c.word_at-w.ensures c.word_at-3.ensures c.stretch-data.ensures) c.lay_bits.ensures
