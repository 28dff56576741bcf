-- `check_signals::first_wrong` meets its contract. The loop's invariant: no record below r breaks a rule, and the sum is that of the widths below r. Assumes nothing.
use Prim.Native.Nat.{◌≤◌}
use mathlib.Core.Path.{◌≡◌}
use Rattle.spec_tests.specs.Rules.{first, sum_to}
use Rattle.spec_tests.specs.Laws.{from}
use Rattle.spec_rules.specs.Image.{count_at_of, signal_width}
use Rattle.check_signals.specs.Signals.{wrong_signal}
use Rattle.check_signals.proofs.first_wrong.Given as goal

abbrev pub invariant-loop-r : goal.invariant-loop-r
invariant-loop-r l =
    (l.r ≤ count_at_of l.image 0) × (first (wrong_signal l.image) (count_at_of l.image 0) ≡ from (wrong_signal l.image) (count_at_of l.image 0) l.r)
    × (l.sum ≡ sum_to (signal_width l.image) l.r) × (l.sum ≤ 4096)
