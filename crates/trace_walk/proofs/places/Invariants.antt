-- `trace_walk::places` meets its contract. Assumes nothing.
use Prim.Native.Nat.{◌-◌}
use mathlib.Core.Path.{◌≡◌}
use lib.ListN.{length}
use Rattle.trace_walk.specs.Walking.{Walking}
use Rattle.trace_walk.proofs.places.Given as goal

abbrev pub invariant-loop-p : goal.invariant-loop-p
invariant-loop-p l = (length l.initial.out ≡ length l.out) × Walking l.net l.sort l.p l.n l.out

abbrev pub decreases-loop-p : goal.decreases-loop-p
decreases-loop-p l = l.end - l.p
