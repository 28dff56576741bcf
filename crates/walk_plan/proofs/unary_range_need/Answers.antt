-- `walk_plan::unary_range_need` meets its contract. Assumes nothing.
use Rattle.image_records.specs.Expr.{unary_means}
use Rattle.walk_plan.specs.Plan.{unary_needs}
use Rattle.walk_plan.proofs.unary_range_need.Goals as goal

pub returns-in-BitNot : goal.returns-in-BitNot
unfolding unary_needs unary_means
returns-in-BitNot c = rw c.in-BitNot.is

pub returns-in-LogicNot : goal.returns-in-LogicNot
unfolding unary_needs unary_means
returns-in-LogicNot c = rw c.in-LogicNot.is

pub returns-in-ReduceOr : goal.returns-in-ReduceOr
unfolding unary_needs unary_means
returns-in-ReduceOr c = rw c.in-ReduceOr.is

pub returns-in-ReduceAnd : goal.returns-in-ReduceAnd
unfolding unary_needs unary_means
returns-in-ReduceAnd c = rw c.in-ReduceAnd.is

pub returns-in-ReduceXor : goal.returns-in-ReduceXor
unfolding unary_needs unary_means
returns-in-ReduceXor c = rw c.in-ReduceXor.is
