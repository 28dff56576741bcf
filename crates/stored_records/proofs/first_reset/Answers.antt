-- `stored_records::first_reset` meets its contract. Assumes nothing.
use Rattle.std.proofs.Common.{sym, ◌∙◌, arith}
use Rattle.stored_records.specs.Words.{register_reset, register_reset_level, register_reset_mode, register_reset_value}
use Rattle.stored_view.specs.Found.{one_hit, one_skip, join_hit, join_skip, nothing_left}
use Rattle.stored_records.proofs.first_reset.Goals as goal

pub returns-in-Some : goal.returns-in-Some
returns-in-Some c = λ earlier. join_hit _ 13 9 11 (omega arith) (omega arith) (c.in-Some.ensures _ (register_reset _ earlier _) (register_reset_level _ earlier _))

pub returns-then-wrong_level : goal.returns-then-wrong_level
returns-then-wrong_level c =
    λ earlier.
    join_skip _ 13 9 11 (omega arith) (omega arith) (c.in_default.ensures _ (register_reset _ earlier _) (register_reset_level _ earlier _))
    (one_hit _ 13 11 (omega arith) (register_reset_mode _ _ _ ∙ (sym c.wrong_level.ensures ∙ c.if-wrong_level.true)))

pub returns-then-wrong_level-2 : goal.returns-then-wrong_level-2
returns-then-wrong_level-2 c =
    λ earlier.
    join_skip _ 13 9 11 (omega arith) (omega arith) (c.in_default.ensures _ (register_reset _ earlier _) (register_reset_level _ earlier _))
    (one_skip _ 13 11 (omega arith) (register_reset_mode _ _ _ ∙ (sym c.wrong_level.ensures ∙ c.if-wrong_level.false))
    (one_hit _ 13 12 (omega arith) (register_reset_value _ _ _ ∙ (sym c.wrong_level-2.ensures ∙ c.if-wrong_level-2.true))))

pub returns : goal.returns
returns c =
    λ earlier.
    join_skip _ 13 9 11 (omega arith) (omega arith) (c.in_default.ensures _ (register_reset _ earlier _) (register_reset_level _ earlier _))
    (one_skip _ 13 11 (omega arith) (register_reset_mode _ _ _ ∙ (sym c.wrong_level.ensures ∙ c.if-wrong_level.false))
    (one_skip _ 13 12 (omega arith) (register_reset_value _ _ _ ∙ (sym c.wrong_level-2.ensures ∙ c.if-wrong_level-2.false))
    (nothing_left _ 13)))
