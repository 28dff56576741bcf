-- `stored_nodes::wrong_owner` meets its contract. Assumes nothing.
use mathlib.Core.Path.{refl, sym, ◌∙◌}
use native.Mathlib.Omega.{arith}
use Rattle.spec_tests.specs.Laws.{pick_hit, pick_skip, or_left, or_right, or_skip, eq_yes, eq_no, lt_same, ne_same}
use Rattle.spec_netlist.specs.Accept.{wrong_owner, most_owner}
use Rattle.stored_nodes.proofs.wrong_owner.Goals as goal

pub returns-then-is_owned : goal.returns-then-is_owned
unfolding wrong_owner most_owner
returns-then-is_owned c = pick_hit _ (or_left _ (sym c.is_owned.ensures ∙ c.if-is_owned.true)) (lt_same refl refl)

pub returns-then-k-eq-CONSTANT : goal.returns-then-k-eq-CONSTANT
unfolding wrong_owner most_owner
returns-then-k-eq-CONSTANT c = pick_hit _ (or_right _ (eq_yes _ _ (omega arith))) (lt_same refl refl)

pub returns : goal.returns
unfolding wrong_owner
returns c = pick_skip _ (sym (or_skip (sym c.is_owned.ensures ∙ c.if-is_owned.false) (sym (eq_no _ _ (omega arith))))) (ne_same refl refl)
