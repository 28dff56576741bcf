-- `stored_list::first_word` meets its contract. Assumes nothing.
use Prim.Native.Nat.{◌-◌}
use Rattle.stored_list.specs.Walking.{Walking}
use Rattle.stored_list.proofs.first_word.Given as goal

abbrev pub invariant-loop-p : goal.invariant-loop-p
invariant-loop-p l = Walking l.net l.p l.marks l.counts

abbrev pub decreases-loop-p : goal.decreases-loop-p
decreases-loop-p l = l.end - l.p
