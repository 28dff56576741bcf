-- `check_expressions::first_expr` meets its contract. Assumes nothing.
use mathlib.Core.Path.{◌≡◌}
use Prim.Native.Nat.{◌≤◌}
use Rattle.spec_tests.specs.Rules.{first, sum_to}
use Rattle.spec_tests.specs.Laws.{from}
use Rattle.spec_rules.specs.Image.{expr_width}
use Rattle.spec_rules.specs.Checks.{bad_expr}
use Rattle.check_expressions.proofs.first_expr.Given as goal

abbrev pub invariant-loop-r : goal.invariant-loop-r
invariant-loop-r l = (l.r ≤ l.n) × (l.sum ≤ 32768) × (l.sum ≡ sum_to (expr_width l.image) l.r) × (first (bad_expr l.image) l.n ≡ from (bad_expr l.image) l.n l.r)
