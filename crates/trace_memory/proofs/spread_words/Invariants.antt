-- `trace_memory::spread_words` meets its contract. Assumes nothing.
use mathlib.Core.Path.{◌≡◌}
use lib.ListN.{length}
use Rattle.trace_step.specs.Words.{identity}
use Rattle.trace_memory.specs.Spread.{Spreading}
use Rattle.trace_memory.proofs.spread_words.Given as goal

abbrev pub invariant-loop-i : goal.invariant-loop-i
invariant-loop-i l = (length l.initial.values ≡ length l.values) × Spreading identity l.initial.values l.nets l.words l.values l.i
