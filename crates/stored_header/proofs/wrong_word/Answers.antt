-- `stored_header::wrong_word` meets its contract. Assumes nothing.
use mathlib.Core.Path.{refl}
use native.Mathlib.Omega.{arith}
use Rattle.spec_tests.specs.Laws.{pick_hit, pick_skip, eq_yes, eq_no, lt_yes, lt_no, ne_same, lt_same}
use Rattle.spec_netlist.specs.Accept.{wrong_header}
use Rattle.stored_header.specs.Header.{word_4_read}
use Rattle.stored_header.proofs.wrong_word.Goals as goal

pub returns-in-0 : goal.returns-in-0
unfolding wrong_header
returns-in-0 c = pick_hit _ (eq_yes _ _ (omega arith)) (ne_same c.word_at-w.ensures refl)

pub returns-in-1 : goal.returns-in-1
unfolding wrong_header
returns-in-1 c = pick_skip _ (eq_no _ _ (omega arith)) (pick_hit _ (eq_yes _ _ (omega arith)) (lt_same refl c.word_at-w.ensures))

pub returns-in-2 : goal.returns-in-2
unfolding wrong_header
returns-in-2 c = pick_skip _ (eq_no _ _ (omega arith)) (pick_skip _ (eq_no _ _ (omega arith)) (pick_hit _ (eq_yes _ _ (omega arith)) (ne_same c.word_at-w.ensures refl)))

pub returns-in-3 : goal.returns-in-3
unfolding wrong_header
returns-in-3 c = pick_skip _ (eq_no _ _ (omega arith)) (pick_skip _ (eq_no _ _ (omega arith)) (pick_skip _ (eq_no _ _ (omega arith)) (pick_hit _ (eq_yes _ _ (omega arith)) (lt_same refl c.word_at-w.ensures))))

pub returns-in-4 : goal.returns-in-4
returns-in-4 c = word_4_read _ _ (omega arith) c.word_at.ensures c.word_at-w.ensures c.wrong_offset.ensures

pub returns-in-5-to-9 : goal.returns-in-5-to-9
unfolding wrong_header
returns-in-5-to-9 c =
    pick_skip _ (eq_no _ _ (omega arith)) (pick_skip _ (eq_no _ _ (omega arith)) (pick_skip _ (eq_no _ _ (omega arith)) (pick_skip _ (eq_no _ _ (omega arith))
    (pick_skip _ (eq_no _ _ (omega arith)) (pick_hit _ (lt_yes _ _ (omega arith)) refl)))))

pub returns-in_default : goal.returns-in_default
unfolding wrong_header
returns-in_default c =
    pick_skip _ (eq_no _ _ (omega arith)) (pick_skip _ (eq_no _ _ (omega arith)) (pick_skip _ (eq_no _ _ (omega arith)) (pick_skip _ (eq_no _ _ (omega arith))
    (pick_skip _ (eq_no _ _ (omega arith)) (pick_skip _ (lt_no _ _ (omega arith)) (ne_same c.word_at-w.ensures refl))))))
