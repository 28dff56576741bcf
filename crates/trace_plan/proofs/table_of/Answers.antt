-- `trace_plan::table_of` meets its contract. Assumes nothing.
use Rattle.trace_plan.specs.Kinds.{constant_one, constant_zero, table_other}
use Rattle.trace_plan.proofs.table_of.Goals as goal

pub returns-then-owner-eq1 : goal.returns-then-owner-eq1
returns-then-owner-eq1 c = constant_one _ _ c.if-kind-eq-CONSTANT.true c.if-owner-eq1.true

pub returns-then-kind-eq-CONSTANT : goal.returns-then-kind-eq-CONSTANT
returns-then-kind-eq-CONSTANT c = constant_zero _ _ c.if-kind-eq-CONSTANT.true c.if-owner-eq1.false

pub returns : goal.returns
returns c = table_other _ _ c.requires c.if-kind-eq-CONSTANT.false
