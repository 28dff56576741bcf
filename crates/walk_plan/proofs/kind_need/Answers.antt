-- `walk_plan::kind_need` meets its contract. Assumes nothing.
use mathlib.Core.Path.{ap}
use native.Mathlib.Omega.{arith}
use lib.ListN.{drop}
use Rattle.walk_plan.specs.Kinds.{none_left, turn_for, needs_signal, needs_constant, needs_unary, needs_binary, needs_mux, needs_concat, needs_slice}
use Rattle.walk_plan.proofs.kind_need.Goals as goal

pub operands-requires : goal.operands-requires
operands-requires c =
    let pre = c.requires in
    rw c.in-Binary.is at (pre)

pub part-requires : goal.part-requires
part-requires c =
    let pre = c.requires in
    rw c.in-Concat.is at (pre)

pub returns-in-Signal : goal.returns-in-Signal
returns-in-Signal c =
    let a = c.args in
    let pre = c.requires in
    let there = rw c.in-Signal.is at (pre) in
    (there, λ j i. ap (drop j) (needs_signal a.image.now a.width a.kind _ _ c.in-Signal.is))

pub returns-in-Constant : goal.returns-in-Constant
returns-in-Constant c =
    let a = c.args in
    rw (needs_constant a.image.now a.width a.kind _ c.in-Constant.is) (none_left _ a.k (omega arith))

pub returns-in-Unary : goal.returns-in-Unary
returns-in-Unary c =
    let a = c.args in
    turn_for a.image.now _ _ a.k c.one.result (needs_unary a.image.now a.width a.kind _ _ c.in-Unary.is) (c.one.ensures a.image.now)

pub returns-in-Binary : goal.returns-in-Binary
returns-in-Binary c =
    let a = c.args in
    turn_for a.image.now _ _ a.k c.operand.result (needs_binary a.image.now a.width a.kind _ _ _ _ c.in-Binary.is c.operands.ensures) (c.operand.ensures a.image.now)

pub returns-in-Mux : goal.returns-in-Mux
returns-in-Mux c =
    let a = c.args in
    turn_for a.image.now _ _ a.k c.triple.result (needs_mux a.image.now a.width a.kind _ _ _ c.in-Mux.is) (c.triple.ensures a.image.now)

pub returns-in-Concat : goal.returns-in-Concat
returns-in-Concat c =
    let a = c.args in
    turn_for a.image.now _ _ a.k c.part.result (needs_concat a.image.now a.width a.kind _ _ c.in-Concat.is) (c.part.ensures a.image.now)

pub returns-in-Slice : goal.returns-in-Slice
returns-in-Slice c =
    let a = c.args in
    turn_for a.image.now _ _ a.k c.one-in-Slice.result (needs_slice a.image.now a.width a.kind _ _ c.in-Slice.is) (c.one-in-Slice.ensures a.image.now)
