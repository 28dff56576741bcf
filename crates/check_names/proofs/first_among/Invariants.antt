-- `check_names::first_among` meets its contract. The loop's invariant: no record below r has a wrong name, and the remainders of their hashes are seen. Assumes nothing.
use Prim.Native.Nat.{◌≤◌}
use mathlib.Core.Path.{◌≡◌}
use lib.ListN.{length}
use Rattle.spec_tests.specs.Rules.{first}
use Rattle.spec_tests.specs.Laws.{from}
use Rattle.check_names.specs.Names.{wrong_name, Seen}
use Rattle.check_names.proofs.first_among.Given as goal

abbrev pub invariant-loop-r : goal.invariant-loop-r
invariant-loop-r l = (l.r ≤ l.n) × (first (wrong_name l.image l.k) l.n ≡ from (wrong_name l.image l.k) l.n l.r) × (Seen l.image l.k l.r l.seen) × (length l.seen ≡ length l.initial.seen)
