-- `expr_ranges::range_of_concat` meets its contract. Assumes nothing.
use Prim.Native.Nat.{◌≤◌}
use Rattle.expr_ranges.specs.Steps.{Joining}
use Rattle.expr_range_rows.specs.Rows.{shown}
use Rattle.expr_ranges.proofs.range_of_concat.Given as goal

abbrev pub invariant-loop-i : goal.invariant-loop-i
invariant-loop-i l = (l.i ≤ l.count) × Joining l.image l.start l.count l.width l.i (shown l.result)
