-- `scratch_layout::put_drivers` meets its contract: invariant: so many drivers are pasted. Assumes nothing.
use Prim.Native.Nat.{◌+◌}
use Rattle.spec_tests.specs.Rules.{list_of}
use Rattle.scratch_view.specs.Copies.{PastedAt}
use Rattle.scratch_layout.proofs.put_drivers.Given as goal

abbrev pub invariant-loop-i : goal.invariant-loop-i
invariant-loop-i l = PastedAt l.initial.scr l.at (list_of l.n (λ i. l.base + i)) l.n l.scr l.i
