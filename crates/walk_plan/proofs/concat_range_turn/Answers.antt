-- `walk_plan::concat_range_turn` meets its contract. Assumes nothing.
use native.Mathlib.Omega.{arith}
use Rattle.walk_plan.specs.Kinds.{part_most, piece_turn, pieces_end}
use Rattle.walk_plan.proofs.concat_range_turn.Goals as goal

pub part_range_need-requires : goal.part_range_need-requires
part_range_need-requires c =
    let a = c.args in
    let pre = c.requires in
    let m = part_most a.image.now a.start a.count a.lsb a.w a.k _ _ pre.0 c.if-k-count.true c.list_word-part.ensures c.expr_width-v.ensures in
    omega (arith, pre.0.0, pre.1, c.if-k-count.true)

pub overflow_add-result : goal.overflow_add-result
overflow_add-result c =
    let a = c.args in
    let pre = c.requires in
    let m = part_most a.image.now a.start a.count a.lsb a.w a.k _ _ pre.0 c.if-k-count.true c.list_word-part.ensures c.expr_width-v.ensures in
    omega (arith, pre.0.0, pre.1, c.if-k-count.true)

pub returns-then-k-count : goal.returns-then-k-count
returns-then-k-count c =
    let a = c.args in
    let pre = c.requires in
    let m = part_most a.image.now a.start a.count a.lsb a.w a.k _ _ pre.0 c.if-k-count.true c.list_word-part.ensures c.expr_width-v.ensures in
    (piece_turn a.image.now a.start a.count a.lsb a.w a.k _ _ pre.0 c.if-k-count.true c.list_word-part.ensures c.expr_width-v.ensures a.at c.part_range_need.result c.part_range_need.ensures, omega (arith, pre.1))

pub returns : goal.returns
returns c =
    let a = c.args in
    pieces_end a.image.now a.start a.count a.lsb a.w a.k a.at c.if-k-count.false
