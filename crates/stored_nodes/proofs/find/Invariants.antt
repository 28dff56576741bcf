-- `stored_nodes::find` meets its contract. The loop's invariant: the search stands at slot `at`, `rest` is what is left of the key, and at most 47 nodes were passed.
use Rattle.stored_nodes.specs.Lookup.{Searches}
use Rattle.stored_nodes.proofs.find.Given as goal

abbrev pub invariant-loop-depth : goal.invariant-loop-depth
invariant-loop-depth l = Searches l.net l.table l.n l.rest l.at l._depth
