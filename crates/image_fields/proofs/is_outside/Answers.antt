-- `image_fields::is_outside` meets its contract. Assumes nothing.
use borrow.Author.Tests.{lt-ltb}
use Rattle.spec_tests.specs.Rules.{outside, ◌<?◌}
use Rattle.spec_tests.specs.Laws.{or_hit, or_skip, lt_yes, lt_no}
use mathlib.Core.Path.{refl, ◌∙◌}
use Rattle.image_fields.proofs.is_outside.Goals as goal

pub returns-then-x-lo : goal.returns-then-x-lo
unfolding outside ◌<?◌
returns-then-x-lo c = lt-ltb _ _ c.if-x-lo.true ∙ or_hit _ (lt_yes _ _ c.if-x-lo.true)

pub returns-else-x-lo : goal.returns-else-x-lo
unfolding outside ◌<?◌
returns-else-x-lo c = or_skip (lt_no _ _ c.if-x-lo.false) refl
