-- `trace_answer::is_wrong` meets its contract. Assumes nothing.
use Rattle.spec_tests.specs.Laws.{or_hit, or_skip, ne_yes, ne_no}
use Rattle.trace_answer.proofs.is_wrong.Goals as goal

pub returns-then-line-inputs : goal.returns-then-line-inputs
returns-then-line-inputs c = or_hit _ (ne_yes _ _ c.if-line-inputs.true)

pub returns : goal.returns
returns c = or_skip (ne_no _ _ c.if-line-inputs.false) c.has_wrong_letter.ensures
