-- `stored_marks::ports_fit` meets its contract. Assumes nothing.
use Prim.Native.Nat.{◌+◌, ◌≤◌, ◌-◌}
use mathlib.Core.Path.{◌≡◌}
use lib.ListN.{length, drop, get_or}
use Rattle.spec_netlist.specs.Accept.{ports_length}
use Rattle.stored_marks.proofs.ports_fit.Given as goal

abbrev pub invariant-loop-port : goal.invariant-loop-port
invariant-loop-port l = (l.at ≤ length l.l) × (6 + ports_length (get_or l.l 5 0) (drop 6 l.l) ≡ l.at + ports_length (l.ports - l._port) (drop l.at l.l))
