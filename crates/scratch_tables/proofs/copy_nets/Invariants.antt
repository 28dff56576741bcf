-- `scratch_tables::copy_nets` meets its contract: invariant: so many nets are pasted. Assumes nothing.
use Prim.Native.Nat.{◌+◌}
use lib.ListN.{get_or}
use Rattle.spec_tests.specs.Rules.{list_of}
use Rattle.scratch_view.specs.View.{net_word}
use Rattle.scratch_view.specs.Copies.{PastedAt}
use Rattle.scratch_tables.proofs.copy_nets.Given as goal

abbrev pub invariant-loop-i : goal.invariant-loop-i
invariant-loop-i l = PastedAt l.initial.out l.to (list_of l.n (λ i. net_word (get_or l.scr (l.at + i) 0))) l.n l.out l.i
