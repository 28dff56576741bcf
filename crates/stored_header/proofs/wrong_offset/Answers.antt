-- `stored_header::wrong_offset` meets its contract. Assumes nothing.
use mathlib.Core.Path.{refl, sym}
use native.Mathlib.Omega.{arith}
use Rattle.spec_tests.specs.Rules.{outside}
use Rattle.spec_tests.specs.Laws.{or_hit, or_skip, lt_yes, lt_no, ne_yes, ne_no, lt_same}
use Rattle.stored_header.specs.Header.{wrong_offset}
use Rattle.stored_header.proofs.wrong_offset.Goals as goal

pub returns-then-at-lt16 : goal.returns-then-at-lt16
unfolding wrong_offset outside
returns-then-at-lt16 c = or_hit _ (sym (or_hit _ (lt_yes _ _ (omega arith))))

pub returns-then-limit-lt1 : goal.returns-then-limit-lt1
unfolding wrong_offset outside
returns-then-limit-lt1 c = or_hit _ (sym (or_hit _ (lt_yes _ _ (omega arith))))

pub returns-then-limit-gt65535 : goal.returns-then-limit-gt65535
unfolding wrong_offset outside
returns-then-limit-gt65535 c = or_hit _ (sym (or_skip (lt_no _ _ (omega arith)) (sym (lt_yes _ _ (omega arith)))))

pub returns-then-at-limit : goal.returns-then-at-limit
unfolding wrong_offset outside
returns-then-at-limit c = or_skip (sym (or_skip (lt_no _ _ (omega arith)) (sym (lt_no _ _ (omega arith))))) (or_hit _ (ne_yes _ _ (omega arith)))

pub returns : goal.returns
unfolding wrong_offset outside
returns c = or_skip (sym (or_skip (lt_no _ _ (omega arith)) (sym (lt_no _ _ (omega arith))))) (or_skip (ne_no _ _ (omega arith)) (lt_same refl refl))
