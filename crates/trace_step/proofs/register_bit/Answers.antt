-- `trace_step::register_bit` meets its contract. Assumes nothing.
use Rattle.trace_step.specs.Chains.{bit_reset, bit_clocked, bit_held}
use Rattle.trace_step.proofs.register_bit.Goals as goal

pub returns-then-is_reset : goal.returns-then-is_reset
returns-then-is_reset c = bit_reset _ _ _ c.is_reset.ensures c.if-is_reset.true c.word_at.ensures

pub returns-then-ticks : goal.returns-then-ticks
returns-then-ticks c = bit_clocked _ _ _ c.is_reset.ensures c.if-is_reset.false c.word_at-2.ensures c.word_at-3.ensures c.ticks.ensures c.if-ticks.true c.clocked_bit.ensures

pub returns : goal.returns
returns c = bit_held _ _ _ c.is_reset.ensures c.if-is_reset.false c.word_at-2.ensures c.word_at-3.ensures c.ticks.ensures c.if-ticks.false c.word_at-4.ensures c.is_on.ensures
