-- `stored_check::first_count` meets its contract. Assumes nothing.
use mathlib.Core.Path.{◌≡◌}
use Rattle.spec_tests.specs.Rules.{first}
use Rattle.spec_tests.specs.Laws.{from}
use Rattle.spec_netlist.specs.Accept.{wrong_count}
use Rattle.stored_check.proofs.first_count.Given as goal

abbrev pub invariant-loop-t : goal.invariant-loop-t
invariant-loop-t l = first (wrong_count l.net) 5 ≡ from (wrong_count l.net) 5 l.t
