-- `expr_ranges::adder_widths` meets its contract. Assumes nothing.
use mathlib.Core.Path.{◌≡◌}
use Prim.Native.Nat.{◌≤◌}
use Rattle.expr_laws.specs.Exprs.{exprs_of}
use Rattle.expr_ranges.specs.Table.{filled}
use Rattle.expr_ranges.proofs.adder_widths.Given as goal

abbrev pub invariant-loop-e : goal.invariant-loop-e
invariant-loop-e l = (l.e ≤ l.count) × (l.table ≡ filled (exprs_of l.image) l.e l.initial.table)
