-- `expr_ranges::range_of_binary` meets its contract. Assumes nothing.
use mathlib.Core.Path.{sym, ap, ◌∙◌}
use Rattle.expr_ranges.specs.Steps.{ordered}
use Rattle.expr_range_rows.specs.Rows.{shown, known}
use Rattle.expr_ranges.proofs.range_of_binary.Goals as goal

pub binary_range-requires : goal.binary_range-requires
binary_range-requires c = record { least = c.requires.least; most = c.requires.most; left = ordered c.args.image.now c.args.table.now c.args.lhs c.requires.left (shown c.in-Some.l) (sym (sym c.known_range.ensures ∙ ap known c.in-Some.is)); right = ordered c.args.image.now c.args.table.now c.args.rhs c.requires.right (shown c.in-Some-known_range.r) (sym (sym c.known_range-2.ensures ∙ ap known c.in-Some-known_range.is)) }
