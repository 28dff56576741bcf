-- `trace_fit::register_unfit` meets its contract. Assumes nothing.
use Rattle.trace_fit.specs.Fit.{clock_unfit, reset_absent, reset_other, reset_there}
use Rattle.trace_fit.proofs.register_unfit.Goals as goal

pub returns-then-no_input : goal.returns-then-no_input
returns-then-no_input c = clock_unfit _ _ c.word_at.ensures c.no_input.ensures c.if-no_input.true

pub returns-then-reset : goal.returns-then-reset
returns-then-reset c = reset_absent _ _ c.word_at.ensures c.no_input.ensures c.if-no_input.false c.word_at-reset.ensures c.if-reset.true

pub returns-then-word_at-ne1 : goal.returns-then-word_at-ne1
returns-then-word_at-ne1 c = reset_other _ _ c.word_at.ensures c.no_input.ensures c.if-no_input.false c.word_at-reset.ensures c.if-reset.false c.word_at-2.ensures c.if-word_at-ne1.true

pub returns : goal.returns
returns c = reset_there _ _ c.word_at.ensures c.no_input.ensures c.if-no_input.false c.word_at-reset.ensures c.if-reset.false c.word_at-2.ensures c.if-word_at-ne1.false c.no_input-2.ensures
