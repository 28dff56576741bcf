-- `trace_memory::spread_words` meets its contract. Assumes nothing.
use mathlib.Core.Path.{sym, ◌∙◌}
use Rattle.trace_step.specs.Words.{identity}
use Rattle.trace_memory.specs.Spread.{spread_more, spread_end}
use Rattle.trace_memory.proofs.spread_words.Goals as goal

pub loop-i-preserved : goal.loop-i-preserved
loop-i-preserved c = (c.loop-i.invariant.0 ∙ sym c.put.auto.values, spread_more identity _ _ _ _ _ c.loop-i.invariant.1 c.loop-i-test.true c.word_at.ensures c.put.ensures)

pub returns : goal.returns
returns c = spread_end identity _ _ _ _ _ c.loop-i.invariant.1 c.loop-i-test.false
