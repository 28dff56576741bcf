-- `stored_memories::first_field` meets its contract. Assumes nothing.
use mathlib.Core.Path.{sym, ◌∙◌}
use Rattle.std.proofs.Common.{true≢false, arith}
use Rattle.stored_view.specs.Found.{one_hit, one_skip, nothing_left}
use Rattle.spec_tests.specs.Laws.{lt_yes, lt_no, ne_yes, ne_no, inside}
use Rattle.stored_memories.specs.Memory.{field_index, field_depth, field_style, field_latency, field_count}
use Rattle.stored_memories.proofs.first_field.Goals as goal

pub returns-then-l-gt15 : goal.returns-then-l-gt15
returns-then-l-gt15 c = (
  λ ws earlier.
      one_hit _ 6 1 (omega arith) (field_index _ _ _ ∙ lt_yes _ _ c.if-l-gt15.true),
  λ h. absurd (true≢false h),
)

pub returns-then-is_outside : goal.returns-then-is_outside
returns-then-is_outside c = (
  λ ws earlier.
      one_skip _ 6 1 (omega arith) (field_index _ _ _ ∙ lt_no _ _ c.if-l-gt15.false)
      (one_hit _ 6 2 (omega arith) (field_depth _ _ _ ∙ (sym c.is_outside.ensures ∙ c.if-is_outside.true))),
  λ h. absurd (true≢false h),
)

pub returns-then-l-gt2 : goal.returns-then-l-gt2
returns-then-l-gt2 c = (
  λ ws earlier.
      one_skip _ 6 1 (omega arith) (field_index _ _ _ ∙ lt_no _ _ c.if-l-gt15.false)
      (one_skip _ 6 2 (omega arith) (field_depth _ _ _ ∙ (sym c.is_outside.ensures ∙ c.if-is_outside.false))
      (one_hit _ 6 3 (omega arith) (field_style _ _ _ ∙ lt_yes _ _ c.if-l-gt2.true))),
  λ h. absurd (true≢false h),
)

pub returns-then-l-ne1 : goal.returns-then-l-ne1
returns-then-l-ne1 c = (
  λ ws earlier.
      one_skip _ 6 1 (omega arith) (field_index _ _ _ ∙ lt_no _ _ c.if-l-gt15.false)
      (one_skip _ 6 2 (omega arith) (field_depth _ _ _ ∙ (sym c.is_outside.ensures ∙ c.if-is_outside.false))
      (one_skip _ 6 3 (omega arith) (field_style _ _ _ ∙ lt_no _ _ c.if-l-gt2.false)
      (one_hit _ 6 4 (omega arith) (field_latency _ _ _ ∙ ne_yes _ _ c.if-l-ne1.true)))),
  λ h. absurd (true≢false h),
)

pub returns-then-is_outside-2 : goal.returns-then-is_outside-2
returns-then-is_outside-2 c = (
  λ ws earlier.
      one_skip _ 6 1 (omega arith) (field_index _ _ _ ∙ lt_no _ _ c.if-l-gt15.false)
      (one_skip _ 6 2 (omega arith) (field_depth _ _ _ ∙ (sym c.is_outside.ensures ∙ c.if-is_outside.false))
      (one_skip _ 6 3 (omega arith) (field_style _ _ _ ∙ lt_no _ _ c.if-l-gt2.false)
      (one_skip _ 6 4 (omega arith) (field_latency _ _ _ ∙ ne_no _ _ c.if-l-ne1.false)
      (one_hit _ 6 5 (omega arith) (field_count _ _ _ ∙ (sym c.is_outside-2.ensures ∙ c.if-is_outside-2.true)))))),
  λ h. absurd (true≢false h),
)

pub returns : goal.returns
returns c = (
  λ ws earlier.
      one_skip _ 6 1 (omega arith) (field_index _ _ _ ∙ lt_no _ _ c.if-l-gt15.false)
      (one_skip _ 6 2 (omega arith) (field_depth _ _ _ ∙ (sym c.is_outside.ensures ∙ c.if-is_outside.false))
      (one_skip _ 6 3 (omega arith) (field_style _ _ _ ∙ lt_no _ _ c.if-l-gt2.false)
      (one_skip _ 6 4 (omega arith) (field_latency _ _ _ ∙ ne_no _ _ c.if-l-ne1.false)
      (one_skip _ 6 5 (omega arith) (field_count _ _ _ ∙ (sym c.is_outside-2.ensures ∙ c.if-is_outside-2.false))
      (nothing_left _ 6))))),
  λ h. inside _ _ _ (sym c.is_outside-2.ensures ∙ c.if-is_outside-2.false),
)
