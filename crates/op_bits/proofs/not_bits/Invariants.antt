-- `op_bits::not_bits` meets its contract. Assumes nothing.
use lib.ListN.{length, get_or}
use Rattle.spec_model.specs.Builder.{each, add_not}
use Rattle.net_view.specs.View.{netlist_of}
use Rattle.op_bits.proofs.Laws.{Going}
use Rattle.op_bits.proofs.not_bits.Given as goal

abbrev pub invariant-loop-x : goal.invariant-loop-x
invariant-loop-x l = Going (λ j. add_not (get_or l.initial.xs j 0)) (each add_not l.initial.xs (netlist_of l.n l.initial.net)) l.n (length l.initial.xs) l.initial.net l.initial.xs l.net l.idx l.xs l.x-index
