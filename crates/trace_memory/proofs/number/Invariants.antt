-- `trace_memory::number` meets its contract. Assumes nothing.
use Rattle.trace_memory.specs.Spread.{Numbering}
use Rattle.trace_memory.proofs.number.Given as goal

abbrev pub invariant-loop-i : goal.invariant-loop-i
invariant-loop-i l = Numbering l.values l.list l.r l.i
