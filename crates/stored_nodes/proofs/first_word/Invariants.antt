-- `stored_nodes::first_word` meets its contract. The loop's invariant: no word of a node below n is wrong, the tree holds the nodes below n that belong to a record,
use Prim.Native.Nat.{◌*◌}
use mathlib.Core.Path.{◌≡◌}
use Rattle.spec_tests.specs.Rules.{first}
use Rattle.spec_tests.specs.Laws.{from}
use Rattle.spec_netlist.specs.Accept.{limit}
use Rattle.stored_nodes.specs.Tree.{slots, Tree}
use Rattle.stored_nodes.specs.Words.{wrong_node}
use Rattle.stored_nodes.proofs.first_word.Given as goal

abbrev pub invariant-loop-n : goal.invariant-loop-n
invariant-loop-n l = (first (wrong_node l.net) (6 * limit l.net) ≡ from (wrong_node l.net) (6 * limit l.net) (6 * l.n)) × Tree l.net l.n (slots l.net l.table)
