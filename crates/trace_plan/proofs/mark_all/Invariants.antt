-- `trace_plan::mark_all` meets its contract. Assumes nothing.
use Prim.Native.Nat.{◌≤◌}
use mathlib.Core.Path.{◌≡◌}
use lib.ListN.{length}
use Rattle.trace_plan.specs.Marked.{Marked}
use Rattle.trace_plan.proofs.mark_all.Given as goal

abbrev pub invariant-loop-k : goal.invariant-loop-k
invariant-loop-k l = (length l.initial.due ≡ length l.due) × ((l.k-index ≤ length l.outs) × Marked l.outs l.initial.due l.due l.n l.k-index)
