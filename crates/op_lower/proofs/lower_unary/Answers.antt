-- `op_lower::lower_unary` meets its contract. Assumes nothing.
use mathlib.Core.Bool.{true, false}
use Rattle.spec_model.specs.Lowering.{lower_unary}
use Rattle.image_records.specs.Expr.{unary_means}
use Rattle.op_lower.proofs.Laws.{whole}
use Rattle.op_lower.proofs.lower_unary.Goals as goal

pub returns-in-BitNot : goal.returns-in-BitNot
unfolding lower_unary unary_means
returns-in-BitNot c =
    let not-bits = c.not_bits in
    let s = c.args in
    rw c.in-BitNot.is (whole _ _ _ s.xs.now _ _ _ not-bits.auto.xs not-bits.ensures)

pub returns-in-LogicNot : goal.returns-in-LogicNot
unfolding lower_unary unary_means
returns-in-LogicNot c =
    let logic-not = c.logic_not in
    rw c.in-LogicNot.is logic-not.ensures

pub returns-in-ReduceOr : goal.returns-in-ReduceOr
unfolding lower_unary unary_means
returns-in-ReduceOr c =
    let reduce-tree = c.reduce_tree in
    rw c.in-ReduceOr.is (reduce-tree.ensures false)

pub returns-in-ReduceAnd : goal.returns-in-ReduceAnd
unfolding lower_unary unary_means
returns-in-ReduceAnd c =
    let reduce-tree2 = c.reduce_tree-in-ReduceAnd in
    rw c.in-ReduceAnd.is (reduce-tree2.ensures true)

pub returns-in-ReduceXor : goal.returns-in-ReduceXor
unfolding lower_unary unary_means
returns-in-ReduceXor c =
    let reduce-tree3 = c.reduce_tree-in-ReduceXor in
    rw c.in-ReduceXor.is (reduce-tree3.ensures false)
