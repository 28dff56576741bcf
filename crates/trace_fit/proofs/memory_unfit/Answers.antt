-- `trace_fit::memory_unfit` meets its contract. Assumes nothing.
use Rattle.trace_fit.specs.Fit.{first_unfit, no_second, second_clock}
use Rattle.trace_fit.proofs.memory_unfit.Goals as goal

pub returns-then-port_unfit : goal.returns-then-port_unfit
returns-then-port_unfit c = first_unfit _ _ c.part-first.ensures c.port_unfit.ensures c.if-port_unfit.true

pub returns-then-word_at-ne2 : goal.returns-then-word_at-ne2
returns-then-word_at-ne2 c = no_second _ _ c.part-first.ensures c.port_unfit.ensures c.if-port_unfit.false c.word_at.ensures c.if-word_at-ne2.true

pub returns : goal.returns
returns c = second_clock _ _ c.part-first.ensures c.port_unfit.ensures c.if-port_unfit.false c.word_at.ensures c.if-word_at-ne2.false c.port_length.ensures.0 c.part.ensures c.port_unfit-2.ensures
