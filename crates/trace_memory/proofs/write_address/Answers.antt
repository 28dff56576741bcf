-- `trace_memory::write_address` meets its contract. Assumes nothing.
use Rattle.trace_memory.specs.Ports.{write_at_is}
use Rattle.trace_memory.proofs.write_address.Goals as goal

pub returns : goal.returns
returns c = (write_at_is c.args.p.now c.args.old.now c.word_at.ensures c.word_at-2.ensures c.word_at-3.ensures c.stretch.ensures c.number.ensures.0, c.number.ensures.1)
