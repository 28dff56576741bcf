-- `trace_plan::is_source` meets its contract. Assumes nothing.
use mathlib.Core.Path.{refl}
use Rattle.spec_tests.specs.Laws.{or_hit, or_skip, eq_yes, eq_no, eq_same}
use Rattle.trace_plan.proofs.is_source.Goals as goal

pub returns-then-kind-eq-INPUT : goal.returns-then-kind-eq-INPUT
returns-then-kind-eq-INPUT c = or_hit _ (eq_yes _ _ c.if-kind-eq-INPUT.true)

pub returns-then-kind-eq-REGISTER_OUTPUT : goal.returns-then-kind-eq-REGISTER_OUTPUT
returns-then-kind-eq-REGISTER_OUTPUT c = or_skip (eq_no _ _ c.if-kind-eq-INPUT.false) (or_hit _ (eq_yes _ _ c.if-kind-eq-REGISTER_OUTPUT.true))

pub returns : goal.returns
returns c = or_skip (eq_no _ _ c.if-kind-eq-INPUT.false) (or_skip (eq_no _ _ c.if-kind-eq-REGISTER_OUTPUT.false) (eq_same refl refl))
