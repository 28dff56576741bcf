-- `expr_ranges::binary_range` meets its contract. Assumes nothing.
use mathlib.Core.Path.{sym, ◌∙◌}
use Rattle.expr_ranges.specs.Steps.{by_class, and_class}
use Rattle.expr_range_rows.specs.Rows.{shown}
use Rattle.image_records.specs.declared.OpClass.TheVariants.{Ands, Ors, Adds, Subtracts, Other}
use Rattle.expr_ranges.proofs.binary_range.Goals as goal

pub returns-in-Ands : goal.returns-in-Ands
returns-in-Ands c = c.and_range.ensures ∙ and_class c.args.width (shown c.args.l) (shown c.args.r) ∙ by_class c.args.op c.args.width (shown c.args.l) (shown c.args.r) Ands (sym c.op_class.ensures ∙ c.in-Ands.is)

pub returns-in-Ors : goal.returns-in-Ors
returns-in-Ors c = c.or_range.ensures ∙ by_class c.args.op c.args.width (shown c.args.l) (shown c.args.r) Ors (sym c.op_class.ensures ∙ c.in-Ors.is)

pub returns-in-Adds : goal.returns-in-Adds
returns-in-Adds c = c.add_range.ensures ∙ by_class c.args.op c.args.width (shown c.args.l) (shown c.args.r) Adds (sym c.op_class.ensures ∙ c.in-Adds.is)

pub returns-in-Subtracts : goal.returns-in-Subtracts
returns-in-Subtracts c = c.sub_range.ensures ∙ by_class c.args.op c.args.width (shown c.args.l) (shown c.args.r) Subtracts (sym c.op_class.ensures ∙ c.in-Subtracts.is)

pub returns-in-Other : goal.returns-in-Other
returns-in-Other c = c.full.ensures ∙ by_class c.args.op c.args.width (shown c.args.l) (shown c.args.r) Other (sym c.op_class.ensures ∙ c.in-Other.is)
