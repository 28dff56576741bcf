-- `compare_parts::compare_adder_widths` meets its contract. Assumes nothing.
use mathlib.Core.Path.{ap, ◌∙◌}
use mathlib.Core.Bool.{not}
use native.Mathlib.Omega.{arith}
use Rattle.compare_parts.proofs.Laws.{fine_readable}
use Rattle.compare_parts.proofs.compare_adder_widths.Goals as goal

pub adder_widths-requires : goal.adder_widths-requires
adder_widths-requires c = (fine_readable _ _ c.check.ensures (c.is_err.ensures.negation ∙ ap not c.if-is_err.false), omega (arith, c.count-count.ensures))
