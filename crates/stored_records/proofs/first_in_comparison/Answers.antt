-- `stored_records::first_in_comparison` meets its contract. Assumes nothing.
use Rattle.std.proofs.Common.{refl, sym, ◌∙◌, arith}
use Rattle.spec_tests.specs.Laws.{or_hit, or_skip, lt_yes, lt_no}
use Rattle.stored_records.specs.Words.{comparison_operation, comparison_width, comparison_input_found, comparison_output_wrong, comparison_clean}
use Rattle.stored_view.specs.Found.{one_hit, one_skip}
use Rattle.stored_records.proofs.first_in_comparison.Goals as goal

pub returns-then-l-gt3 : goal.returns-then-l-gt3
returns-then-l-gt3 c = λ earlier m numbered. one_hit _ _ 1 (omega arith) (comparison_operation _ _ _ ∙ lt_yes _ _ c.if-l-gt3.true)

pub returns-then-is_outside : goal.returns-then-is_outside
returns-then-is_outside c =
    λ earlier m numbered.
    one_skip _ _ 1 (omega arith) (comparison_operation _ _ _ ∙ lt_no _ _ c.if-l-gt3.false)
    (one_hit _ _ 2 (omega arith) (comparison_width _ _ _ ∙ (sym c.is_outside.ensures ∙ c.if-is_outside.true)))

pub returns-in-Some : goal.returns-in-Some
returns-in-Some c =
    λ earlier m numbered. comparison_input_found _ _ _ c.requires.2 (lt_no _ _ c.if-l-gt3.false) (sym c.is_outside.ensures ∙ c.if-is_outside.false) c.in-Some.ensures

pub returns-then-not_own : goal.returns-then-not_own
returns-then-not_own c =
    λ earlier m numbered.
    comparison_output_wrong _ _ _ c.requires.2 (lt_no _ _ c.if-l-gt3.false) (sym c.is_outside.ensures ∙ c.if-is_outside.false) c.in_default.ensures numbered refl
    (c.not_own.ensures earlier m) (sym (or_hit _ c.if-not_own.true))

pub returns-then-x-above : goal.returns-then-x-above
returns-then-x-above c =
    λ earlier m numbered.
    comparison_output_wrong _ _ _ c.requires.2 (lt_no _ _ c.if-l-gt3.false) (sym c.is_outside.ensures ∙ c.if-is_outside.false) c.in_default.ensures numbered c.above.ensures
    (c.not_own.ensures earlier m) (sym (or_skip c.if-not_own.false (sym (lt_yes _ _ c.if-x-above.true))))

pub returns : goal.returns
returns c =
    λ earlier m numbered.
    comparison_clean _ _ _ c.requires.2 (lt_no _ _ c.if-l-gt3.false) (sym c.is_outside.ensures ∙ c.if-is_outside.false) c.in_default.ensures numbered c.above.ensures
    (c.not_own.ensures earlier m) (sym (or_skip c.if-not_own.false (sym (lt_no _ _ c.if-x-above.false))))
