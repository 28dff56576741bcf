-- `walk_left::next_bit` meets its contract. Assumes nothing.
use Prim.Native.Nat.{◌≤◌}
use lib.ListN.{drop}
use Rattle.walk_plan.specs.Plan.{bits_needs}
use Rattle.walk_left.specs.Left.{Skips}
use Rattle.walk_left.proofs.next_bit.Given as goal

abbrev pub invariant-loop-k : goal.invariant-loop-k
invariant-loop-k l = Skips l.image l.scr (drop l.from (bits_needs l.p l.first l.n)) (drop l.k (bits_needs l.p l.first l.n)) × (l.from ≤ l.k)
