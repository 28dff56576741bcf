-- `stored_given::is_node` meets its contract. Assumes nothing.
use mathlib.Core.Path.{refl}
use Rattle.spec_tests.specs.Laws.{lt_same}
use Rattle.spec_netlist.specs.Given.{is_node}
use Rattle.stored_given.proofs.is_node.Goals as goal

pub returns : goal.returns
unfolding is_node
returns c = lt_same refl c.word_at.ensures
