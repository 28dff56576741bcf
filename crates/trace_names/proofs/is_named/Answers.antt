-- `trace_names::is_named` meets its contract. Assumes nothing.
use Rattle.trace_names.specs.Numbers.{other_word, its_name}
use Rattle.trace_names.proofs.is_named.Goals as goal

pub returns-then-same_text : goal.returns-then-same_text
returns-then-same_text c = its_name c.args.word.now c.args.line.now c.stretch.ensures c.same_text.ensures c.if-same_text.true c.part.ensures c.is_name.ensures

pub returns : goal.returns
returns c = other_word c.args.word.now c.args.line.now c.stretch.ensures c.same_text.ensures c.if-same_text.false
