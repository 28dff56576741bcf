-- `op_shifts::moved_bit` meets its contract. Assumes nothing.
use mathlib.Core.Path.{◌∙◌}
use Rattle.op_shifts.proofs.Laws.{left_low, left_high, right_bit, arithmetic_bit}
use Rattle.op_shifts.proofs.moved_bit.Goals as goal

pub returns-then-i-distance : goal.returns-then-i-distance
returns-then-i-distance c =
    let s = c.args in
    let pre = c.requires in
    rw c.in-Left.is (left_low s.z s.distance s.original.now s.i pre.0 c.if-i-distance.true)

pub returns-else-i-distance : goal.returns-else-i-distance
returns-else-i-distance c =
    let s = c.args in
    let pre = c.requires in
    rw c.in-Left.is (left_high s.z s.distance s.original.now s.i pre.0 c.if-i-distance.false)

pub returns-in-Right : goal.returns-in-Right
returns-in-Right c =
    let s = c.args in
    let pre = c.requires in
    rw c.in-Right.is (c.moved_down.ensures ∙ right_bit s.z s.distance s.original.now s.i pre.0)

pub returns-in-Arithmetic : goal.returns-in-Arithmetic
returns-in-Arithmetic c =
    let s = c.args in
    let pre = c.requires in
    rw c.in-Arithmetic.is (c.moved_down-in-Arithmetic.ensures ∙ arithmetic_bit s.z s.distance s.original.now s.i pre.0)
