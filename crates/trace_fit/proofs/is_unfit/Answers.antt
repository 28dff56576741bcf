-- `trace_fit::is_unfit` meets its contract. Assumes nothing.
use Rattle.trace_fit.specs.Fit.{unfit_register, unfit_memory, unfit_bits, memories_small}
use Rattle.trace_fit.proofs.is_unfit.Goals as goal

pub returns-then-registers_unfit : goal.returns-then-registers_unfit
returns-then-registers_unfit c = unfit_register _ c.requires.0 c.requires.1 c.requires.2 c.registers_unfit.ensures c.if-registers_unfit.true

pub returns-then-memories_unfit : goal.returns-then-memories_unfit
returns-then-memories_unfit c = unfit_memory _ c.requires.0 c.requires.1 c.requires.2 c.registers_unfit.ensures c.if-registers_unfit.false c.memories_unfit.ensures c.if-memories_unfit.true

pub memory_bits-requires : goal.memory_bits-requires
memory_bits-requires c = memories_small _ c.requires.0 c.requires.2

pub returns : goal.returns
returns c = unfit_bits _ c.requires.0 c.requires.1 c.requires.2 c.registers_unfit.ensures c.if-registers_unfit.false c.memories_unfit.ensures c.if-memories_unfit.false c.memory_bits.ensures
