-- `stored_view::first_not_own` meets its contract. Assumes nothing.
use Rattle.std.proofs.Common.{◌≡◌, ℕ, List, length, get_or, ◌+◌}
use Rattle.spec_tests.specs.Rules.{first}
use Rattle.spec_tests.specs.Laws.{from}
use Rattle.stored_view.specs.Opened.{Marked}
use Rattle.spec_netlist.specs.Accept.{not_own_of}
use Rattle.stored_view.proofs.first_not_own.Given as goal

abbrev pub invariant-loop-i : goal.invariant-loop-i
invariant-loop-i l = (earlier : List (List ℕ)) → Marked l.net earlier l.marks → first (λ j. not_own_of l.net earlier (get_or l.own j 0) l.kind l.owner (l.base + j)) (length l.own) ≡ from (λ j. not_own_of l.net earlier (get_or l.own j 0) l.kind l.owner (l.base + j)) (length l.own) l.i
