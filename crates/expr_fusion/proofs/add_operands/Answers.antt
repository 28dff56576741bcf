-- `expr_fusion::add_operands` meets its contract. Assumes nothing.
use mathlib.Core.Path.{◌∙◌}
use Rattle.expr_fusion.specs.Fusion.{sum_binary, sum_other}
use Rattle.expr_fusion.proofs.add_operands.Goals as goal

pub returns-in-Binary : goal.returns-in-Binary
returns-in-Binary c = c.sum_of.ensures ∙ sum_binary c.args.image.now c.args.e c.requires c.expression_at.result c.expression_at.ensures c.in-Binary.is

pub returns-in-Signal : goal.returns-in-Signal
returns-in-Signal c = sum_other c.args.image.now c.args.e c.requires c.expression_at.result c.expression_at.ensures c.in-Signal.is tt

pub returns-in-Constant : goal.returns-in-Constant
returns-in-Constant c = sum_other c.args.image.now c.args.e c.requires c.expression_at.result c.expression_at.ensures c.in-Constant.is tt

pub returns-in-Unary : goal.returns-in-Unary
returns-in-Unary c = sum_other c.args.image.now c.args.e c.requires c.expression_at.result c.expression_at.ensures c.in-Unary.is tt

pub returns-in-Mux : goal.returns-in-Mux
returns-in-Mux c = sum_other c.args.image.now c.args.e c.requires c.expression_at.result c.expression_at.ensures c.in-Mux.is tt

pub returns-in-Concat : goal.returns-in-Concat
returns-in-Concat c = sum_other c.args.image.now c.args.e c.requires c.expression_at.result c.expression_at.ensures c.in-Concat.is tt

pub returns-in-Slice : goal.returns-in-Slice
returns-in-Slice c = sum_other c.args.image.now c.args.e c.requires c.expression_at.result c.expression_at.ensures c.in-Slice.is tt
