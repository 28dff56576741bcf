-- `scratch_tables::all_known` meets its contract: invariant: the words passed hold nets, and what is left decides. Assumes nothing.
use Rattle.scratch_tables.proofs.Ways.{KnownAt}
use Rattle.scratch_tables.proofs.all_known.Given as goal

abbrev pub invariant-loop-i : goal.invariant-loop-i
invariant-loop-i l = KnownAt l.scr l.at l.n l.i
