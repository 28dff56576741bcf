-- `op_bits::pairwise` meets its contract. Assumes nothing.
use lib.ListN.{length, get_or}
use Rattle.spec_model.specs.Builder.{both}
use Rattle.net_view.specs.View.{netlist_of}
use Rattle.op_bits.specs.Kinds.{pair_made}
use Rattle.op_bits.proofs.Laws.{Going}
use Rattle.op_bits.proofs.pairwise.Given as goal

abbrev pub invariant-loop-i : goal.invariant-loop-i
invariant-loop-i l = Going (λ j. pair_made l.p (get_or l.initial.xs j 0) (get_or l.ys j 0)) (both (pair_made l.p) l.initial.xs l.ys (netlist_of l.n l.initial.net)) l.n (length l.initial.xs) l.initial.net l.initial.xs l.net l.idx l.xs l.i
