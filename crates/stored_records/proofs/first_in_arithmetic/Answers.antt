-- `stored_records::first_in_arithmetic` meets its contract. Assumes nothing.
use Rattle.std.proofs.Common.{sym, ◌∙◌, arith}
use Rattle.spec_tests.specs.Laws.{lt_yes, lt_no}
use Rattle.stored_records.specs.Words.{arithmetic_operation, arithmetic_width, arithmetic_carry, arithmetic_input_found, arithmetic_output_found, arithmetic_output_clean}
use Rattle.stored_view.specs.Found.{one_hit, one_skip}
use Rattle.stored_records.proofs.first_in_arithmetic.Goals as goal

pub returns-then-l-gt2 : goal.returns-then-l-gt2
returns-then-l-gt2 c = λ earlier m numbered. one_hit _ _ 1 (omega arith) (arithmetic_operation _ _ _ ∙ lt_yes _ _ c.if-l-gt2.true)

pub returns-then-is_outside : goal.returns-then-is_outside
returns-then-is_outside c =
    λ earlier m numbered.
    one_skip _ _ 1 (omega arith) (arithmetic_operation _ _ _ ∙ lt_no _ _ c.if-l-gt2.false)
    (one_hit _ _ 2 (omega arith) (arithmetic_width _ _ _ ∙ (sym c.is_outside.ensures ∙ c.if-is_outside.true)))

pub returns-then-no_optional : goal.returns-then-no_optional
returns-then-no_optional c =
    λ earlier m numbered.
    one_skip _ _ 1 (omega arith) (arithmetic_operation _ _ _ ∙ lt_no _ _ c.if-l-gt2.false)
    (one_skip _ _ 2 (omega arith) (arithmetic_width _ _ _ ∙ (sym c.is_outside.ensures ∙ c.if-is_outside.false))
    (one_hit _ _ 3 (omega arith) (arithmetic_carry _ _ _ ∙ (sym c.no_optional.ensures ∙ c.if-no_optional.true))))

pub returns-in-Some : goal.returns-in-Some
returns-in-Some c =
    λ earlier m numbered.
    arithmetic_input_found _ _ _ c.requires.2 (lt_no _ _ c.if-l-gt2.false) (sym c.is_outside.ensures ∙ c.if-is_outside.false) (sym c.no_optional.ensures ∙ c.if-no_optional.false) c.in-Some.ensures

pub returns-in_err-i : goal.returns-in_err-i
returns-in_err-i c =
    λ earlier m numbered.
    c.from_residual.ensures
    ∙ arithmetic_output_clean _ _ _ c.requires.2 (lt_no _ _ c.if-l-gt2.false) (sym c.is_outside.ensures ∙ c.if-is_outside.false) (sym c.no_optional.ensures ∙ c.if-no_optional.false)
    c.in_default.ensures numbered c.above_carry.ensures.0 c.above-least.ensures (c.in_err-i.ensures.0 earlier m)

pub returns : goal.returns
returns c =
    λ earlier m numbered.
    arithmetic_output_found _ _ _ c.requires.2 (lt_no _ _ c.if-l-gt2.false) (sym c.is_outside.ensures ∙ c.if-is_outside.false) (sym c.no_optional.ensures ∙ c.if-no_optional.false)
    c.in_default.ensures numbered c.above_carry.ensures.0 c.above-least.ensures (c.in_ok-i.ensures.0 earlier m)
