-- `trace_step::is_on` meets its contract. Assumes nothing.
use mathlib.Core.Path.{refl}
use Rattle.spec_tests.specs.Laws.{eq_same}
use Rattle.trace_step.proofs.is_on.Goals as goal

pub returns : goal.returns
returns c = eq_same c.word_at.ensures refl
