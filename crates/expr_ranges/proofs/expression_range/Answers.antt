-- `expr_ranges::expression_range` meets its contract. Assumes nothing.
use mathlib.Core.Path.{ap, ◌∙◌}
use Rattle.spec_model.specs.Ranges as model
use Rattle.expr_ranges.specs.Steps.{width_asked, constant_asked, constant_range, binary_asked, binary_range_law, mux_asked, mux_range_law, slice_asked, slice_range, concat_asked, concat_range, signal_range, unary_range}
use Rattle.expr_ranges.proofs.expression_range.Goals as goal

pub constant_value-requires : goal.constant_value-requires
constant_value-requires c = constant_asked c.args.image.now c.args.table.now c.args.e c.requires.0 c.requires.1 c.expression_at-width.result c.expression_at-width.ensures c.in-Constant.is

pub range_of_binary-requires : goal.range_of_binary-requires
range_of_binary-requires c = binary_asked c.args.image.now c.args.table.now c.args.e c.requires.0 c.requires.1 c.expression_at-width.result c.expression_at-width.ensures c.in-Binary.is

pub range_of_mux-requires : goal.range_of_mux-requires
range_of_mux-requires c = mux_asked c.args.image.now c.args.table.now c.args.e c.requires.0 c.requires.1 c.expression_at-width.result c.expression_at-width.ensures c.in-Mux.is

pub range_of_slice-requires : goal.range_of_slice-requires
range_of_slice-requires c = slice_asked c.args.image.now c.args.table.now c.args.e c.requires.0 c.requires.1 c.expression_at-width.result c.expression_at-width.ensures c.in-Slice.is

pub range_of_concat-requires : goal.range_of_concat-requires
range_of_concat-requires c = concat_asked c.args.image.now c.args.table.now c.args.e c.requires.0 c.requires.1 c.expression_at-width.result c.expression_at-width.ensures c.in-Concat.is

pub full-requires : goal.full-requires
full-requires c = width_asked c.args.image.now c.args.table.now c.args.e c.requires.0 c.requires.1 c.expression_at-width.result c.expression_at-width.ensures

pub full-requires-in-Unary : goal.full-requires-in-Unary
full-requires-in-Unary c = width_asked c.args.image.now c.args.table.now c.args.e c.requires.0 c.requires.1 c.expression_at-width.result c.expression_at-width.ensures

pub returns-in-Constant : goal.returns-in-Constant
returns-in-Constant c = c.point.ensures ∙ ap model.point c.constant_value.ensures ∙ constant_range c.args.image.now c.args.table.now c.args.e c.requires.0 c.requires.1 c.expression_at-width.result c.expression_at-width.ensures c.in-Constant.is

pub returns-in-Binary : goal.returns-in-Binary
returns-in-Binary c = c.range_of_binary.ensures ∙ binary_range_law c.args.image.now c.args.table.now c.args.e c.requires.0 c.requires.1 c.expression_at-width.result c.expression_at-width.ensures c.in-Binary.is

pub returns-in-Mux : goal.returns-in-Mux
returns-in-Mux c = c.range_of_mux.ensures ∙ mux_range_law c.args.image.now c.args.table.now c.args.e c.requires.0 c.requires.1 c.expression_at-width.result c.expression_at-width.ensures c.in-Mux.is

pub returns-in-Slice : goal.returns-in-Slice
returns-in-Slice c = c.range_of_slice.ensures ∙ slice_range c.args.image.now c.args.table.now c.args.e c.requires.0 c.requires.1 c.expression_at-width.result c.expression_at-width.ensures c.in-Slice.is

pub returns-in-Concat : goal.returns-in-Concat
returns-in-Concat c = c.range_of_concat.ensures ∙ concat_range c.args.image.now c.args.table.now c.args.e c.requires.0 c.requires.1 c.expression_at-width.result c.expression_at-width.ensures c.in-Concat.is

pub returns-in-Signal : goal.returns-in-Signal
returns-in-Signal c = c.full.ensures ∙ signal_range c.args.image.now c.args.table.now c.args.e c.requires.0 c.requires.1 c.expression_at-width.result c.expression_at-width.ensures c.in-Signal.is

pub returns-in-Unary : goal.returns-in-Unary
returns-in-Unary c = c.full-in-Unary.ensures ∙ unary_range c.args.image.now c.args.table.now c.args.e c.requires.0 c.requires.1 c.expression_at-width.result c.expression_at-width.ensures c.in-Unary.is
