-- `stored_nodes::wrong_input` meets its contract. Assumes nothing.
use mathlib.Core.Path.{refl, ap}
use mathlib.Core.Bool.{not}
use Rattle.spec_tests.specs.Laws.{pick_hit, pick_skip, lt_yes, lt_no, lt_same, ne_same}
use Rattle.spec_netlist.specs.Accept.{wrong_input, input_count}
use Rattle.stored_nodes.proofs.wrong_input.Goals as goal

pub returns-then-i-k : goal.returns-then-i-k
unfolding wrong_input input_count
returns-then-i-k c = pick_hit _ (lt_yes _ _ c.if-i-k.true) (ap not (lt_same refl refl))

pub returns : goal.returns
unfolding wrong_input input_count
returns c = pick_skip _ (lt_no _ _ c.if-i-k.false) (ne_same refl refl)
