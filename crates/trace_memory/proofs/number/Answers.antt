-- `trace_memory::number` meets its contract. Assumes nothing.
use native.Mathlib.Omega.{arith}
use Rattle.spec_rtl.specs.Word.{bit_lt}
use Rattle.trace_memory.specs.Spread.{numbering_low, numbering_end}
use Rattle.trace_memory.proofs.number.Goals as goal

pub overflow_mul-r : goal.overflow_mul-r
overflow_mul-r c = omega (arith, numbering_low c.requires c.loop-i.invariant)

pub overflow_add-r : goal.overflow_add-r
overflow_add-r c = omega (arith, numbering_low c.requires c.loop-i.invariant, c.bit_of.ensures, bit_lt c.is_on.result)

pub returns : goal.returns
returns c = numbering_end c.requires c.loop-i.invariant c.loop-i-test.false
