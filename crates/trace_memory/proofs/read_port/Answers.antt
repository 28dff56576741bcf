-- `trace_memory::read_port` meets its contract. Assumes nothing.
use mathlib.Core.Bool.{not}
use mathlib.Core.Path.{ap}
use native.Mathlib.Omega.{arith}
use Rattle.law_sorts.specs.Memories.{own_length}
use Rattle.trace_memory.specs.Ports.{tick_is, reads_is, read_at_is, read_data_is, read_still, read_shut, read_past, read_word}
use Rattle.trace_memory.proofs.read_port.Goals as goal

pub overflow_sub-e : goal.overflow_sub-e
overflow_sub-e c = omega (arith, own_length c.args.p.now, c.port_length-e.ensures.0)

pub returns-then-not-ticks : goal.returns-then-not-ticks
returns-then-not-ticks c = read_still _ _ c.args.memory.now _ c.args.p.now c.args.old.now c.args.new.now (tick_is c.args.p.now c.port_length-e.ensures.0 c.args.old.now c.args.new.now c.word_at.ensures c.word_at-2.ensures c.ticks.ensures) (ap not c.if-not-ticks.true)

pub returns-then-not-is_enabled : goal.returns-then-not-is_enabled
returns-then-not-is_enabled c = read_shut _ _ c.args.memory.now _ c.args.p.now c.args.old.now c.args.new.now (tick_is c.args.p.now c.port_length-e.ensures.0 c.args.old.now c.args.new.now c.word_at.ensures c.word_at-2.ensures c.ticks.ensures) (ap not c.if-not-ticks.false) (reads_is c.args.p.now c.port_length-e.ensures.0 c.args.old.now c.args.new.now c.word_at-3.ensures c.word_at-4.ensures c.is_enabled.ensures) (ap not c.if-not-is_enabled.true)

pub returns-then-depth-a : goal.returns-then-depth-a
returns-then-depth-a c = read_past _ _ c.args.memory.now _ c.args.p.now c.args.old.now c.args.new.now (tick_is c.args.p.now c.port_length-e.ensures.0 c.args.old.now c.args.new.now c.word_at.ensures c.word_at-2.ensures c.ticks.ensures) (ap not c.if-not-ticks.false) (reads_is c.args.p.now c.port_length-e.ensures.0 c.args.old.now c.args.new.now c.word_at-3.ensures c.word_at-4.ensures c.is_enabled.ensures) (ap not c.if-not-is_enabled.false) (read_at_is c.args.p.now c.args.old.now c.args.new.now c.word_at-n.ensures c.stretch.ensures c.number-a.ensures.0) (read_data_is c.args.p.now c.word_at-n.ensures c.word_at-5.ensures c.stretch-data.ensures) c.if-depth-a.true c.stretch-then-depth-a.ensures c.spread_words.ensures

pub returns : goal.returns
returns c = read_word _ _ c.args.memory.now _ c.args.p.now c.args.old.now c.args.new.now (tick_is c.args.p.now c.port_length-e.ensures.0 c.args.old.now c.args.new.now c.word_at.ensures c.word_at-2.ensures c.ticks.ensures) (ap not c.if-not-ticks.false) (reads_is c.args.p.now c.port_length-e.ensures.0 c.args.old.now c.args.new.now c.word_at-3.ensures c.word_at-4.ensures c.is_enabled.ensures) (ap not c.if-not-is_enabled.false) (read_at_is c.args.p.now c.args.old.now c.args.new.now c.word_at-n.ensures c.stretch.ensures c.number-a.ensures.0) (read_data_is c.args.p.now c.word_at-n.ensures c.word_at-5.ensures c.stretch-data.ensures) c.if-depth-a.false c.stretch-2.ensures c.spread_words-2.ensures
