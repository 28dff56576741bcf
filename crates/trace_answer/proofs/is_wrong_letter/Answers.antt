-- `trace_answer::is_wrong_letter` meets its contract. Assumes nothing.
use mathlib.Core.Path.{refl}
use Rattle.spec_tests.specs.Laws.{and_miss, and_skip, ne_no, ne_yes, ne_same}
use Rattle.trace_answer.proofs.is_wrong_letter.Goals as goal

pub returns-then-b-eq48 : goal.returns-then-b-eq48
returns-then-b-eq48 c = and_miss _ (ne_no _ _ c.if-b-eq48.true)

pub returns : goal.returns
returns c = and_skip (ne_yes _ _ c.if-b-eq48.false) (ne_same refl refl)
