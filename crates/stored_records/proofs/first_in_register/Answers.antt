-- `stored_records::first_in_register` meets its contract. Assumes nothing.
use Rattle.std.proofs.Common.{◌∙◌, arith}
use Rattle.spec_tests.specs.Laws.{lt_yes, lt_no}
use Rattle.stored_records.specs.Words.{register_index, register_bit_law, register_output}
use Rattle.stored_view.specs.Found.{one_hit, one_skip}
use Rattle.stored_records.proofs.first_in_register.Goals as goal

pub returns-then-l-gt255 : goal.returns-then-l-gt255
returns-then-l-gt255 c = λ earlier m. one_hit _ 13 1 (omega arith) (register_index _ _ _ ∙ lt_yes _ _ c.if-l-gt255.true)

pub returns-then-l-gt1023 : goal.returns-then-l-gt1023
returns-then-l-gt1023 c =
    λ earlier m.
    one_skip _ 13 1 (omega arith) (register_index _ _ _ ∙ lt_no _ _ c.if-l-gt255.false)
    (one_hit _ 13 2 (omega arith) (register_bit_law _ _ _ ∙ lt_yes _ _ c.if-l-gt1023.true))

pub returns-then-not_own : goal.returns-then-not_own
returns-then-not_own c =
    λ earlier m.
    one_skip _ 13 1 (omega arith) (register_index _ _ _ ∙ lt_no _ _ c.if-l-gt255.false)
    (one_skip _ 13 2 (omega arith) (register_bit_law _ _ _ ∙ lt_no _ _ c.if-l-gt1023.false)
    (one_hit _ 13 3 (omega arith) (register_output _ _ _ (c.not_own.ensures earlier m) ∙ c.if-not_own.true)))

pub returns : goal.returns
returns c =
    λ earlier m.
    one_skip _ 13 1 (omega arith) (register_index _ _ _ ∙ lt_no _ _ c.if-l-gt255.false)
    (one_skip _ 13 2 (omega arith) (register_bit_law _ _ _ ∙ lt_no _ _ c.if-l-gt1023.false)
    (one_skip _ 13 3 (omega arith) (register_output _ _ _ (c.not_own.ensures earlier m) ∙ c.if-not_own.false)
    (c.first_control.ensures earlier)))
