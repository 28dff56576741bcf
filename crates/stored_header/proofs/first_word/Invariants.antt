-- `stored_header::first_word` meets its contract. The loop's invariant: no header word below i is wrong. Assumes nothing.
use mathlib.Core.Path.{◌≡◌}
use Rattle.spec_tests.specs.Rules.{first}
use Rattle.spec_tests.specs.Laws.{from}
use Rattle.spec_netlist.specs.Accept.{wrong_header}
use Rattle.stored_header.proofs.first_word.Given as goal

abbrev pub invariant-loop-i : goal.invariant-loop-i
invariant-loop-i l = first (wrong_header l.net) l.n ≡ from (wrong_header l.net) l.n l.i
