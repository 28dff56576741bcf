-- `scratch_tables::fill` meets its contract: invariant: so many nets are pasted. Assumes nothing.
use mathlib.Core.List.{map}
use Prim.Native.Nat.{suc}
use lib.ListN.{length}
use Rattle.scratch_view.specs.Copies.{PastedAt}
use Rattle.scratch_tables.proofs.fill.Given as goal

abbrev pub invariant-loop-i : goal.invariant-loop-i
invariant-loop-i l = PastedAt l.initial.part 0 (map suc l.nets) (length l.nets) l.part l.i
