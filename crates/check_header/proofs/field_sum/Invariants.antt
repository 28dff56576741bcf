-- `check_header::field_sum` meets its contract. The loop's invariant: the sum is that of the fields below r, each below 2 ^ 32. Assumes nothing.
use Prim.Native.Nat.{◌≤◌, ◌*◌}
use mathlib.Core.Path.{◌≡◌}
use Rattle.spec_tests.specs.Rules.{sum_to}
use Rattle.check_header.specs.Header.{field_of}
use Rattle.check_header.proofs.field_sum.Given as goal

abbrev pub invariant-loop-r : goal.invariant-loop-r
invariant-loop-r l = (l.r ≤ l.n) × (l.sum ≡ sum_to (field_of l.image l.k l.f) l.r) × (l.sum ≤ l.r * 4294967295)
