-- `scratch_layout::lay_starts` meets its contract: invariant: the first bits of the expressions passed stand. Assumes nothing.
use mathlib.Core.Path.{◌≡◌}
use Rattle.spec_tests.specs.Rules.{sum_to}
use Rattle.spec_rules.specs.Image.{expr_width}
use Rattle.scratch_view.specs.View.{limit_of}
use Rattle.scratch_layout.proofs.Ways.{StartsAt}
use Rattle.scratch_layout.proofs.lay_starts.Given as goal

abbrev pub invariant-loop-e : goal.invariant-loop-e
invariant-loop-e l = (l.sum ≡ sum_to (expr_width l.image) l.e) × StartsAt l.image (limit_of l.initial.scr) l.initial.scr l.scr l.e
