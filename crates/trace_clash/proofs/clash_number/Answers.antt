-- `trace_clash::clash_number` meets its contract. Assumes nothing.
use Rattle.trace_clash.specs.Words.{number_clash, number_none}
use Rattle.trace_clash.proofs.clash_number.Goals as goal

pub returns-then-is_clash : goal.returns-then-is_clash
returns-then-is_clash c = number_clash c.args.r.now c.args.old.now c.args.new.now c.is_clash.ensures c.if-is_clash.true c.word_at.ensures

pub returns : goal.returns
returns c = number_none c.args.r.now c.args.old.now c.args.new.now c.is_clash.ensures c.if-is_clash.false
