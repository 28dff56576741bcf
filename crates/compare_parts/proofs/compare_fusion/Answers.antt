-- `compare_parts::compare_fusion` meets its contract. Assumes nothing.
use mathlib.Core.Path.{ap, ◌∙◌}
use mathlib.Core.Bool.{not}
use native.Mathlib.Omega.{arith}
use Rattle.compare_parts.proofs.Laws.{fine_readable}
use Rattle.compare_parts.proofs.compare_fusion.Goals as goal

pub fusion_row-requires : goal.fusion_row-requires
fusion_row-requires c = record {
  readable = fine_readable _ _ c.check.ensures (c.is_err.ensures.negation ∙ ap not c.if-is_err.false);
  left = omega (arith, c.count-count.ensures);
  right = omega (arith, c.count-count.ensures);
}
