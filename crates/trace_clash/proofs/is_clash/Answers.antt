-- `trace_clash::is_clash` meets its contract. Assumes nothing.
use mathlib.Core.Path.{refl}
use Rattle.trace_memory.specs.Ports.{second_is}
use Rattle.trace_clash.specs.Words.{clash_one, clash_first, clash_second, clash_apart, clash_there}
use mathlib.Core.Path.{ap}
use mathlib.Core.Bool.{not}
use Rattle.trace_clash.proofs.is_clash.Goals as goal

pub returns-then-word_at-ne2 : goal.returns-then-word_at-ne2
returns-then-word_at-ne2 c = clash_one c.args.r.now c.args.old.now c.args.new.now c.word_at.ensures c.if-word_at-ne2.true

pub returns-then-not-is_writing : goal.returns-then-not-is_writing
returns-then-not-is_writing c = clash_first c.args.r.now c.args.old.now c.args.new.now c.word_at.ensures c.if-word_at-ne2.false c.part-first.ensures (second_is c.args.r.now c.part-first.ensures c.port_length.ensures.0 c.part-second.ensures) c.is_writing.ensures (ap not c.if-not-is_writing.true)

pub returns-then-not-is_writing-2 : goal.returns-then-not-is_writing-2
returns-then-not-is_writing-2 c = clash_second c.args.r.now c.args.old.now c.args.new.now c.word_at.ensures c.if-word_at-ne2.false c.part-first.ensures (second_is c.args.r.now c.part-first.ensures c.port_length.ensures.0 c.part-second.ensures) c.is_writing.ensures (ap not c.if-not-is_writing.false) c.is_writing-2.ensures (ap not c.if-not-is_writing-2.true)

pub returns-then-a-b : goal.returns-then-a-b
returns-then-a-b c = clash_apart c.args.r.now c.args.old.now c.args.new.now c.word_at.ensures c.if-word_at-ne2.false c.part-first.ensures (second_is c.args.r.now c.part-first.ensures c.port_length.ensures.0 c.part-second.ensures) c.is_writing.ensures (ap not c.if-not-is_writing.false) c.is_writing-2.ensures (ap not c.if-not-is_writing-2.false) c.write_address-a.ensures.0 c.write_address-b.ensures.0 c.if-a-b.true

pub returns : goal.returns
returns c = clash_there c.args.r.now c.args.old.now c.args.new.now c.word_at.ensures c.if-word_at-ne2.false c.part-first.ensures (second_is c.args.r.now c.part-first.ensures c.port_length.ensures.0 c.part-second.ensures) c.is_writing.ensures (ap not c.if-not-is_writing.false) c.is_writing-2.ensures (ap not c.if-not-is_writing-2.false) c.write_address-a.ensures.0 c.write_address-b.ensures.0 c.if-a-b.false c.word_at-2.ensures refl
