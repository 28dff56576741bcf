-- `trace_memory::is_writing` meets its contract. Assumes nothing.
use mathlib.Core.Bool.{not}
use mathlib.Core.Path.{ap}
use native.Mathlib.Omega.{arith}
use Rattle.law_sorts.specs.Memories.{own_length}
use Rattle.trace_memory.specs.Ports.{tick_is, writes_is, not_writing, is_writing}
use Rattle.trace_memory.proofs.is_writing.Goals as goal

pub overflow_sub-e : goal.overflow_sub-e
overflow_sub-e c = omega (arith, own_length c.args.p.now, c.port_length-e.ensures.0)

pub returns-then-not-ticks : goal.returns-then-not-ticks
returns-then-not-ticks c = not_writing c.args.p.now c.args.old.now c.args.new.now (tick_is c.args.p.now c.port_length-e.ensures.0 c.args.old.now c.args.new.now c.word_at.ensures c.word_at-2.ensures c.ticks.ensures) (ap not c.if-not-ticks.true)

pub returns : goal.returns
returns c = is_writing c.args.p.now c.args.old.now c.args.new.now (tick_is c.args.p.now c.port_length-e.ensures.0 c.args.old.now c.args.new.now c.word_at.ensures c.word_at-2.ensures c.ticks.ensures) (ap not c.if-not-ticks.false) (writes_is c.args.p.now c.port_length-e.ensures.0 c.args.old.now c.args.new.now c.word_at-3.ensures c.word_at-4.ensures c.is_active.ensures)
