-- `trace_memory::write_memory` meets its contract. Assumes nothing.
use Rattle.trace_memory.specs.Ports.{one_written, two_written, second_is}
use Rattle.trace_memory.proofs.write_memory.Goals as goal

pub returns-then-word_at-ne2 : goal.returns-then-word_at-ne2
returns-then-word_at-ne2 c = one_written _ _ c.word_at-depth.ensures c.word_at-width.ensures c.word_at.ensures c.part-first.ensures _ _ _ c.write_port.ensures c.if-word_at-ne2.true

pub returns : goal.returns
returns c = two_written _ _ c.word_at-depth.ensures c.word_at-width.ensures c.word_at.ensures c.part-first.ensures _ _ _ c.write_port.ensures c.if-word_at-ne2.false (second_is _ c.part-first.ensures c.port_length.ensures.0 c.part-second.ensures) c.write_port-2.ensures
