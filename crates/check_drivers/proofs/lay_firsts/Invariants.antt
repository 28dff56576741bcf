-- `check_drivers::lay_firsts` meets its contract. The loop's invariant: the sum is that of the widths below p, and the words below p are in place. Assumes nothing.
use mathlib.Core.Path.{◌≡◌}
use Prim.Native.Nat.{ℕ, ◌≤◌, ◌<◌}
use lib.ListN.{length, get_or}
use Rattle.spec_tests.specs.Rules.{sum_to}
use Rattle.spec_rules.specs.Image.{count_at_of, signal_width}
use Rattle.check_drivers.proofs.lay_firsts.Given as goal

abbrev pub invariant-loop-p : goal.invariant-loop-p
invariant-loop-p l = (l.p ≤ count_at_of l.image 0) × (l.sum ≡ sum_to (signal_width l.image) l.p) × (length l.firsts ≡ length l.initial.firsts) × ((q : ℕ) → q < l.p → get_or l.firsts q 0 ≡ sum_to (signal_width l.image) q)
