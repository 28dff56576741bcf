-- `trace_line::load_line` meets its contract. Assumes nothing.
use mathlib.Core.Path.{◌≡◌}
use lib.ListN.{length}
use Rattle.trace_memory.specs.Spread.{Spreading}
use Rattle.trace_line.specs.Step.{char}
use Rattle.trace_line.proofs.load_line.Given as goal

abbrev pub invariant-loop-i : goal.invariant-loop-i
invariant-loop-i l = (length l.initial.values ≡ length l.values) × Spreading char l.initial.values l.inputs l.line l.values l.i
