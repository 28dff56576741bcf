-- `stored_marks::mark` meets its contract. Assumes nothing.
use Prim.Native.Nat.{ℕ, ◌<◌}
use mathlib.Core.Path.{◌≡◌}
use lib.ListN.{length, take, get_or}
use Rattle.spec_tests.specs.Rules.{◌≢?◌, ◌or◌}
use Rattle.spec_netlist.specs.Accept.{member}
use Rattle.stored_marks.proofs.mark.Given as goal

abbrev pub invariant-loop-x : goal.invariant-loop-x
invariant-loop-x l = (x : ℕ) → x < length l.initial.marks → (get_or l.marks x 0 ≢? 0) ≡ ((get_or l.initial.marks x 0 ≢? 0) or member x (take l.x-index l.own))
