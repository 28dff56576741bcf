-- `stored_records::first_control` meets its contract. Assumes nothing.
use Rattle.std.proofs.Common.{sym, ◌∙◌, arith}
use Rattle.stored_records.specs.Words.{register_data, register_clock, register_edge, register_enable, register_enable_level}
use Rattle.stored_view.specs.Found.{one_hit, one_skip, join_hit, join_skip}
use Rattle.stored_records.proofs.first_control.Goals as goal

pub returns-then-no_net : goal.returns-then-no_net
returns-then-no_net c = λ earlier. one_hit _ 13 4 (omega arith) (register_data _ _ _ ∙ (sym c.no_net.ensures ∙ c.if-no_net.true))

pub returns-in-Some : goal.returns-in-Some
returns-in-Some c =
    λ earlier.
    one_skip _ 13 4 (omega arith) (register_data _ _ _ ∙ (sym c.no_net.ensures ∙ c.if-no_net.false))
    (join_hit _ 13 5 7 (omega arith) (omega arith) (c.in-Some.ensures _ (register_clock _ earlier _) (register_edge _ earlier _)))

pub returns-in-Some-first_in_control : goal.returns-in-Some-first_in_control
returns-in-Some-first_in_control c =
    λ earlier.
    one_skip _ 13 4 (omega arith) (register_data _ _ _ ∙ (sym c.no_net.ensures ∙ c.if-no_net.false))
    (join_skip _ 13 5 7 (omega arith) (omega arith) (c.in_default.ensures _ (register_clock _ earlier _) (register_edge _ earlier _))
    (join_hit _ 13 7 9 (omega arith) (omega arith) (c.in-Some-first_in_control.ensures _ (register_enable _ earlier _) (register_enable_level _ earlier _))))

pub returns : goal.returns
returns c =
    λ earlier.
    one_skip _ 13 4 (omega arith) (register_data _ _ _ ∙ (sym c.no_net.ensures ∙ c.if-no_net.false))
    (join_skip _ 13 5 7 (omega arith) (omega arith) (c.in_default.ensures _ (register_clock _ earlier _) (register_edge _ earlier _))
    (join_skip _ 13 7 9 (omega arith) (omega arith) (c.in_default-first_in_control.ensures _ (register_enable _ earlier _) (register_enable_level _ earlier _))
    (c.first_reset.ensures earlier)))
