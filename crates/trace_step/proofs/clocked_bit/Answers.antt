-- `trace_step::clocked_bit` meets its contract. Assumes nothing.
use Rattle.trace_step.specs.Chains.{clocked_reset, clocked_next, clocked_held}
use Rattle.trace_step.proofs.clocked_bit.Goals as goal

pub returns-then-is_reset : goal.returns-then-is_reset
returns-then-is_reset c = clocked_reset _ _ c.is_reset.ensures c.if-is_reset.true c.word_at.ensures

pub returns-then-is_enabled : goal.returns-then-is_enabled
returns-then-is_enabled c = clocked_next _ _ c.is_reset.ensures c.if-is_reset.false c.word_at-2.ensures c.word_at-3.ensures c.is_enabled.ensures c.if-is_enabled.true c.word_at-then-is_enabled.ensures c.is_on.ensures

pub returns : goal.returns
returns c = clocked_held _ _ c.is_reset.ensures c.if-is_reset.false c.word_at-2.ensures c.word_at-3.ensures c.is_enabled.ensures c.if-is_enabled.false c.word_at-4.ensures c.is_on-2.ensures
