-- `trace_line::load_line` meets its contract. Assumes nothing.
use mathlib.Core.Path.{sym, ◌∙◌}
use Rattle.trace_memory.specs.Spread.{spread_more, spread_end}
use Rattle.trace_line.specs.Step.{char}
use Rattle.trace_line.proofs.load_line.Goals as goal

pub loop-i-preserved : goal.loop-i-preserved
loop-i-preserved c = (c.loop-i.invariant.0 ∙ sym c.put.auto.values, spread_more char _ _ _ _ _ c.loop-i.invariant.1 c.loop-i-test.true c.char_at.ensures c.put.ensures)

pub returns : goal.returns
returns c = spread_end char _ _ _ _ _ c.loop-i.invariant.1 c.loop-i-test.false
