-- `walk_plan::kind_range_turn` meets its contract. Assumes nothing.
use native.Mathlib.Omega.{arith}
use Rattle.std.specs.Prelude.{Some}
use Rattle.walk_plan.specs.Kinds.{turn_list, turn_as, rest_signal, rest_constant, rest_unary, rest_binary, rest_mux, rest_concat, rest_slice}
use Rattle.walk_plan.proofs.kind_range_turn.Goals as goal

pub overflow_add-result : goal.overflow_add-result
overflow_add-result c =
    let pre = c.requires in
    let there = rw c.in-Signal.is at pre.0 in
    omega (arith, there.most)

pub concat_range_turn-requires : goal.concat_range_turn-requires
concat_range_turn-requires c =
    let pre = c.requires in
    (rw c.in-Concat.is at pre.0, pre.1)

pub overflow_add-l : goal.overflow_add-l
overflow_add-l c =
    let pre = c.requires in
    let a = rw c.in-Slice.is at pre.0 in
    omega arith

pub returns-in-Signal : goal.returns-in-Signal
returns-in-Signal c =
    let a = c.args in
    let pre = c.requires in
    let there = rw c.in-Signal.is at pre.0 in
    (there, λ j i. rest_signal a.image.now a.e a.lsb a.w a.kind _ _ c.in-Signal.is j i)

pub returns-in-Constant : goal.returns-in-Constant
returns-in-Constant c =
    let a = c.args in
    rest_constant a.image.now a.e a.lsb a.w a.kind _ c.in-Constant.is a.k a.at

pub returns-in-Unary : goal.returns-in-Unary
returns-in-Unary c =
    let a = c.args in
    turn_list a.image.now _ _ a.k a.at c.one.result (rest_unary a.image.now a.e a.lsb a.w a.kind _ _ (Some c.unary_range_need.result) c.in-Unary.is c.unary_range_need.ensures) (c.one.ensures a.image.now)

pub returns-in-Binary : goal.returns-in-Binary
returns-in-Binary c =
    let a = c.args in
    turn_list a.image.now _ _ a.k a.at c.binary_range_turn.result (rest_binary a.image.now a.e a.lsb a.w a.kind _ _ _ c.in-Binary.is) (c.binary_range_turn.ensures a.image.now)

pub returns-in-Mux : goal.returns-in-Mux
returns-in-Mux c =
    let a = c.args in
    turn_list a.image.now _ _ a.k a.at c.mux_range_turn.result (rest_mux a.image.now a.e a.lsb a.w a.kind _ _ _ c.in-Mux.is) (c.mux_range_turn.ensures a.image.now)

pub returns-in-Concat : goal.returns-in-Concat
returns-in-Concat c =
    let a = c.args in
    let same = rest_concat a.image.now a.e a.lsb a.w a.kind _ _ c.in-Concat.is in
    turn_as a.image.now _ _ a.k a.at a.at c.concat_range_turn.result (same a.k a.at) same c.concat_range_turn.ensures

pub returns-in-Slice : goal.returns-in-Slice
returns-in-Slice c =
    let a = c.args in
    turn_list a.image.now _ _ a.k a.at c.one-in-Slice.result (rest_slice a.image.now a.e a.lsb a.w a.kind _ _ c.in-Slice.is) (c.one-in-Slice.ensures a.image.now)
