-- `stored_records::first_wrong_output` meets its contract. The loop's invariant: no word below i is wrong, whatever the earlier records that the marks stand for. Assumes nothing.
use Rattle.std.proofs.Common.{◌≡◌, ℕ, List, length}
use Rattle.spec_tests.specs.Rules.{first}
use Rattle.spec_tests.specs.Laws.{from}
use Rattle.stored_view.specs.Opened.{Marked}
use Rattle.stored_records.specs.Words.{wrong_in}
use Rattle.stored_records.proofs.first_wrong_output.Given as goal

abbrev pub invariant-loop-i : goal.invariant-loop-i
invariant-loop-i l = (earlier : List (List ℕ)) → Marked l.net earlier l.marks → first (wrong_in l.net earlier l.outputs l.number l.least) (length l.outputs) ≡ from (wrong_in l.net earlier l.outputs l.number l.least) (length l.outputs) l.i
