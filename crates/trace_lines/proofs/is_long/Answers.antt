-- `trace_lines::is_long` meets its contract. Assumes nothing.
use mathlib.Core.Path.{refl}
use Rattle.spec_tests.specs.Laws.{and_miss, and_skip, lt_yes, lt_no, lt_same}
use Rattle.trace_lines.proofs.is_long.Goals as goal

pub returns-then-inputs-n : goal.returns-then-inputs-n
returns-then-inputs-n c = and_skip (lt_yes _ _ c.if-inputs-n.true) (lt_same refl refl)

pub returns : goal.returns
returns c = and_miss _ (lt_no _ _ c.if-inputs-n.false)
