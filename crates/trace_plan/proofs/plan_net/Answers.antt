-- `trace_plan::plan_net` meets its contract. Assumes nothing.
use mathlib.Core.Path.{sym, ◌∙◌}
use Rattle.trace_plan.specs.Meeting.{meeting, next_passed, next_source, next_gate}
use Rattle.trace_plan.proofs.plan_net.Goals as goal

pub returns-then-due-k : goal.returns-then-due-k
returns-then-due-k c = next_passed c.requires.0 c.if-due-k.true

pub returns-then-is_source : goal.returns-then-is_source
returns-then-is_source c = next_source c.requires.0 c.if-due-k.false (rw c.node_word-kind.ensures at c.is_source.ensures) c.if-is_source.true

pub plan_arithmetic-requires : goal.plan_arithmetic-requires
plan_arithmetic-requires c = (meeting c.requires.0 c.if-due-k.false, sym c.node_word-kind.ensures ∙ c.if-kind-eq-ARITHMETIC_OUTPUT.true, c.requires.1)

pub plan_comparison-requires : goal.plan_comparison-requires
plan_comparison-requires c = (meeting c.requires.0 c.if-due-k.false, sym c.node_word-kind.ensures ∙ c.if-kind-eq-COMPARISON_OUTPUT.true, c.requires.2)

pub plan_gate-requires : goal.plan_gate-requires
plan_gate-requires c = (meeting c.requires.0 c.if-due-k.false, next_gate c.requires.0 (rw c.node_word-kind.ensures at c.is_source.ensures) c.if-is_source.false (λ e. c.if-kind-eq-ARITHMETIC_OUTPUT.false (c.node_word-kind.ensures ∙ e)) (λ e. c.if-kind-eq-COMPARISON_OUTPUT.false (c.node_word-kind.ensures ∙ e)))
