-- `stored_check::first_left` meets its contract. Assumes nothing.
use mathlib.Core.Path.{◌≡◌}
use Rattle.spec_tests.specs.Rules.{first}
use Rattle.spec_tests.specs.Laws.{from}
use Rattle.spec_netlist.specs.Accept.{nets, alone}
use Rattle.stored_check.proofs.first_left.Given as goal

abbrev pub invariant-loop-n : goal.invariant-loop-n
invariant-loop-n l = first (alone l.net) (nets l.net) ≡ from (alone l.net) (nets l.net) l.n
