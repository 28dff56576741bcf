-- `check_names::lay_hashes` meets its contract. The loop's invariant: the hashes below i are stored. Assumes nothing.
use Prim.Native.Nat.{◌≤◌}
use mathlib.Core.Path.{◌≡◌}
use lib.ListN.{length}
use Rattle.check_names.specs.Names.{Hashed}
use Rattle.check_names.proofs.lay_hashes.Given as goal

abbrev pub invariant-loop-i : goal.invariant-loop-i
invariant-loop-i l = (l.i ≤ l.n) × (length l.hs ≡ length l.initial.hs) × (Hashed l.image l.k l.i l.hs)
