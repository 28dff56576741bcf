-- `scratch_layout::index_assignments` meets its contract: invariant: the drivers by the assignments from a on stand. Assumes nothing.
use Rattle.scratch_view.specs.View.{limit_of}
use Rattle.scratch_layout.proofs.Ways.{IndexedAt}
use Rattle.scratch_layout.proofs.index_assignments.Given as goal

abbrev pub invariant-loop-a : goal.invariant-loop-a
invariant-loop-a l = IndexedAt l.image (limit_of l.initial.scr) l.initial.scr l.scr l.a
