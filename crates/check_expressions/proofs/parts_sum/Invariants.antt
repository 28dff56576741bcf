-- `check_expressions::parts_sum` meets its contract. Assumes nothing.
use mathlib.Core.Path.{◌≡◌}
use Prim.Native.Nat.{◌*◌, ◌≤◌}
use Rattle.spec_tests.specs.Rules.{sum_to}
use Rattle.check_expressions.specs.Kinds.{part_width}
use Rattle.check_expressions.proofs.parts_sum.Given as goal

abbrev pub invariant-loop-i : goal.invariant-loop-i
invariant-loop-i l = (l.i ≤ l.count) × (l.t ≡ sum_to (part_width l.image l.start) l.i) × (l.t ≤ l.i * 4294967295)
