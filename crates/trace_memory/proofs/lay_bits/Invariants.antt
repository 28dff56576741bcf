-- `trace_memory::lay_bits` meets its contract. Assumes nothing.
use mathlib.Core.Path.{◌≡◌}
use lib.ListN.{length}
use Rattle.spec_rtl.specs.Word.{bit}
use Rattle.trace_step.specs.Words.{on}
use Rattle.trace_memory.specs.Spread.{Laying}
use Rattle.trace_memory.proofs.lay_bits.Given as goal

abbrev pub invariant-loop-i : goal.invariant-loop-i
invariant-loop-i l = (length l.initial.memory ≡ length l.memory) × Laying (λ n. bit (on l.values n)) l.initial.memory l.at l.nets l.memory l.i
