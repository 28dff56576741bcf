-- `expr_fusion::zero_test` meets its contract. Assumes nothing.
use Rattle.expr_fusion.specs.Fusion.{zero_constant, other_constant, zero_parts, zero_other, constant_asked}
use Rattle.expr_fusion.proofs.zero_test.Goals as goal

pub low_constant-requires : goal.low_constant-requires
low_constant-requires c = constant_asked c.args.image.now c.args.e c.requires c.expression_at-width.result c.expression_at-width.ensures c.in-Constant.start c.in-Constant.is

pub returns-then-low_constant-eq0 : goal.returns-then-low_constant-eq0
returns-then-low_constant-eq0 c = zero_constant c.args.image.now c.args.e c.requires c.expression_at-width.result c.expression_at-width.ensures c.in-Constant.start c.low_constant.result c.in-Constant.is c.low_constant.ensures c.if-low_constant-eq0.true

pub returns-else-low_constant-eq0 : goal.returns-else-low_constant-eq0
returns-else-low_constant-eq0 c = other_constant c.args.image.now c.args.e c.requires c.expression_at-width.result c.expression_at-width.ensures c.in-Constant.start c.low_constant.result c.in-Constant.is c.low_constant.ensures c.if-low_constant-eq0.false

pub returns-in-Concat : goal.returns-in-Concat
returns-in-Concat c = zero_parts c.args.image.now c.args.e c.requires c.expression_at-width.result c.expression_at-width.ensures c.in-Concat.start c.in-Concat.count c.in-Concat.is

pub returns-in-Signal : goal.returns-in-Signal
returns-in-Signal c = zero_other c.args.image.now c.args.e c.requires c.expression_at-width.result c.expression_at-width.ensures c.in-Signal.is tt

pub returns-in-Unary : goal.returns-in-Unary
returns-in-Unary c = zero_other c.args.image.now c.args.e c.requires c.expression_at-width.result c.expression_at-width.ensures c.in-Unary.is tt

pub returns-in-Binary : goal.returns-in-Binary
returns-in-Binary c = zero_other c.args.image.now c.args.e c.requires c.expression_at-width.result c.expression_at-width.ensures c.in-Binary.is tt

pub returns-in-Mux : goal.returns-in-Mux
returns-in-Mux c = zero_other c.args.image.now c.args.e c.requires c.expression_at-width.result c.expression_at-width.ensures c.in-Mux.is tt

pub returns-in-Slice : goal.returns-in-Slice
returns-in-Slice c = zero_other c.args.image.now c.args.e c.requires c.expression_at-width.result c.expression_at-width.ensures c.in-Slice.is tt
