-- `stored_memories::first_width` meets its contract. Assumes nothing.
use mathlib.Core.Path.{sym, ◌∙◌, subst}
use Prim.Native.Nat.{ℕ, ◌≤◌}
use Rattle.std.proofs.Common.{true≢false, arith}
use Rattle.stored_view.specs.Found.{one_hit, one_skip, nothing_left}
use Rattle.spec_tests.specs.Laws.{or_skip, or_left, ne_yes, ne_no, inside}
use Rattle.stored_memories.specs.Ports.{width_address, width_data, width_write, width_written}
use Rattle.stored_memories.proofs.first_width.Goals as goal

pub returns-then-is_outside : goal.returns-then-is_outside
returns-then-is_outside c = (
  λ ws earlier m base.
      one_hit _ 4 0 (omega arith) (width_address _ _ _ _ _ _ ∙ (sym c.is_outside.ensures ∙ c.if-is_outside.true)),
  λ h. absurd (true≢false h),
)

pub returns-then-is_outside-2 : goal.returns-then-is_outside-2
returns-then-is_outside-2 c = (
  λ ws earlier m base.
      one_skip _ 4 0 (omega arith) (width_address _ _ _ _ _ _ ∙ (sym c.is_outside.ensures ∙ c.if-is_outside.false))
      (one_hit _ 4 1 (omega arith) (width_data _ _ _ _ _ _ ∙ or_left _ (sym c.is_outside-2.ensures ∙ c.if-is_outside-2.true))),
  λ h. absurd (true≢false h),
)

pub returns-then-p-w : goal.returns-then-p-w
returns-then-p-w c = (
  λ ws earlier m base.
      one_skip _ 4 0 (omega arith) (width_address _ _ _ _ _ _ ∙ (sym c.is_outside.ensures ∙ c.if-is_outside.false))
      (one_hit _ 4 1 (omega arith) (width_data _ _ _ _ _ _ ∙ sym (or_skip (sym c.is_outside-2.ensures ∙ c.if-is_outside-2.false) (sym (ne_yes _ _ c.if-p-w.true))))),
  λ h. absurd (true≢false h),
)

pub returns-then-is_outside-3 : goal.returns-then-is_outside-3
returns-then-is_outside-3 c = (
  λ ws earlier m base.
      one_skip _ 4 0 (omega arith) (width_address _ _ _ _ _ _ ∙ (sym c.is_outside.ensures ∙ c.if-is_outside.false))
      (one_skip _ 4 1 (omega arith) (width_data _ _ _ _ _ _ ∙ sym (or_skip (sym c.is_outside-2.ensures ∙ c.if-is_outside-2.false) (sym (ne_no _ _ c.if-p-w.false))))
      (one_hit _ 4 2 (omega arith) (width_write _ _ _ _ _ _ ∙ (sym c.is_outside-3.ensures ∙ c.if-is_outside-3.true)))),
  λ h. absurd (true≢false h),
)

pub returns-then-p-w-2 : goal.returns-then-p-w-2
returns-then-p-w-2 c = (
  λ ws earlier m base.
      one_skip _ 4 0 (omega arith) (width_address _ _ _ _ _ _ ∙ (sym c.is_outside.ensures ∙ c.if-is_outside.false))
      (one_skip _ 4 1 (omega arith) (width_data _ _ _ _ _ _ ∙ sym (or_skip (sym c.is_outside-2.ensures ∙ c.if-is_outside-2.false) (sym (ne_no _ _ c.if-p-w.false))))
      (one_skip _ 4 2 (omega arith) (width_write _ _ _ _ _ _ ∙ (sym c.is_outside-3.ensures ∙ c.if-is_outside-3.false))
      (one_hit _ 4 3 (omega arith) (width_written _ _ _ _ _ _ ∙ ne_yes _ _ c.if-p-w-2.true)))),
  λ h. absurd (true≢false h),
)

pub returns : goal.returns
returns c = (
  λ ws earlier m base.
      one_skip _ 4 0 (omega arith) (width_address _ _ _ _ _ _ ∙ (sym c.is_outside.ensures ∙ c.if-is_outside.false))
      (one_skip _ 4 1 (omega arith) (width_data _ _ _ _ _ _ ∙ sym (or_skip (sym c.is_outside-2.ensures ∙ c.if-is_outside-2.false) (sym (ne_no _ _ c.if-p-w.false))))
      (one_skip _ 4 2 (omega arith) (width_write _ _ _ _ _ _ ∙ (sym c.is_outside-3.ensures ∙ c.if-is_outside-3.false))
      (one_skip _ 4 3 (omega arith) (width_written _ _ _ _ _ _ ∙ ne_no _ _ c.if-p-w-2.false)
      (nothing_left _ 4)))),
  λ h. subst (λ (n : ℕ). n ≤ 1024) c.if-p-w.false (inside _ _ _ (sym c.is_outside-2.ensures ∙ c.if-is_outside-2.false)).1,
)
