-- `trace_step::ticks` meets its contract. Assumes nothing.
use mathlib.Core.Path.{sym, ◌∙◌}
use Rattle.trace_step.specs.Chains.{rising_held, rising_is, falling_held, falling_is}
use Rattle.trace_step.proofs.ticks.Goals as goal

pub returns-then-before : goal.returns-then-before
returns-then-before c = rising_held _ _ _ c.if-falling-eq0.true (sym c.is_on-before.ensures ∙ c.if-before.true)

pub returns-then-falling-eq0 : goal.returns-then-falling-eq0
returns-then-falling-eq0 c = c.is_on-after.ensures ∙ rising_is _ _ _ c.if-falling-eq0.true (sym c.is_on-before.ensures ∙ c.if-before.false)

pub returns-then-after : goal.returns-then-after
returns-then-after c = falling_held _ _ _ c.if-falling-eq0.false (sym c.is_on-after.ensures ∙ c.if-after.true)

pub returns : goal.returns
returns c = c.is_on-before.ensures ∙ falling_is _ _ _ c.if-falling-eq0.false (sym c.is_on-after.ensures ∙ c.if-after.false)
