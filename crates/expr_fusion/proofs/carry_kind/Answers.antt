-- `expr_fusion::carry_kind` meets its contract. Assumes nothing.
use mathlib.Core.Path.{◌∙◌}
use native.Mathlib.Omega.{arith}
use Rattle.expr_fusion.specs.Fusion.{constant_asked, concat_asked, carry_constant, carry_large, carry_concat, carry_other}
use Rattle.expr_fusion.proofs.carry_kind.Goals as goal

pub low_constant-requires : goal.low_constant-requires
low_constant-requires c = constant_asked c.args.image.now c.args.e c.requires c.expression_at-width.result c.expression_at-width.ensures c.in-Constant.start c.in-Constant.is

pub returns-then-low_constant-lt2 : goal.returns-then-low_constant-lt2
returns-then-low_constant-lt2 c = carry_constant c.args.image.now c.args.e c.requires c.expression_at-width.result c.expression_at-width.ensures c.in-Constant.start c.low_constant.result c.in-Constant.is c.low_constant.ensures (omega arith)

pub carry_part-requires : goal.carry_part-requires
carry_part-requires c = concat_asked c.args.image.now c.args.e c.requires c.expression_at-width.result c.expression_at-width.ensures c.in-Concat.start c.in-Concat.count c.in-Concat.is

pub returns-else-low_constant-lt2 : goal.returns-else-low_constant-lt2
returns-else-low_constant-lt2 c = carry_large c.args.image.now c.args.e c.requires c.expression_at-width.result c.expression_at-width.ensures c.in-Constant.start c.low_constant.result c.in-Constant.is c.low_constant.ensures (omega arith)

pub returns-in-Concat : goal.returns-in-Concat
returns-in-Concat c = c.carry_part.ensures ∙ carry_concat c.args.image.now c.args.e c.requires c.expression_at-width.result c.expression_at-width.ensures c.in-Concat.start c.in-Concat.count c.in-Concat.is

pub returns-in-Signal : goal.returns-in-Signal
returns-in-Signal c = carry_other c.args.image.now c.args.e c.requires c.expression_at-width.result c.expression_at-width.ensures c.in-Signal.is tt

pub returns-in-Unary : goal.returns-in-Unary
returns-in-Unary c = carry_other c.args.image.now c.args.e c.requires c.expression_at-width.result c.expression_at-width.ensures c.in-Unary.is tt

pub returns-in-Binary : goal.returns-in-Binary
returns-in-Binary c = carry_other c.args.image.now c.args.e c.requires c.expression_at-width.result c.expression_at-width.ensures c.in-Binary.is tt

pub returns-in-Mux : goal.returns-in-Mux
returns-in-Mux c = carry_other c.args.image.now c.args.e c.requires c.expression_at-width.result c.expression_at-width.ensures c.in-Mux.is tt

pub returns-in-Slice : goal.returns-in-Slice
returns-in-Slice c = carry_other c.args.image.now c.args.e c.requires c.expression_at-width.result c.expression_at-width.ensures c.in-Slice.is tt
