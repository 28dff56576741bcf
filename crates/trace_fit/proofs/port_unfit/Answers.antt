-- `trace_fit::port_unfit` meets its contract. Assumes nothing.
use native.Mathlib.Omega.{arith}
use Rattle.law_sorts.specs.Memories.{own_length}
use Rattle.trace_fit.specs.Fit.{clock_at}
use Rattle.trace_fit.proofs.port_unfit.Goals as goal

pub overflow_sub-port_length : goal.overflow_sub-port_length
overflow_sub-port_length c = omega (arith, own_length c.args.p.now, c.port_length.ensures.0)

pub returns : goal.returns
returns c = clock_at _ _ c.port_length.ensures.0 c.word_at.ensures c.no_input.ensures
