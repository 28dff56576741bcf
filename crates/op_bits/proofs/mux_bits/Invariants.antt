-- `op_bits::mux_bits` meets its contract. Assumes nothing.
use lib.ListN.{length, get_or}
use Rattle.spec_model.specs.Builder.{both, add_mux}
use Rattle.net_view.specs.View.{netlist_of}
use Rattle.net_gates.specs.Nots.{PlainNots}
use Rattle.op_bits.proofs.Laws.{Going}
use Rattle.op_bits.proofs.mux_bits.Given as goal

abbrev pub invariant-loop-i : goal.invariant-loop-i
invariant-loop-i l =
    Going (λ j. add_mux l.condition (get_or l.initial.then_bits j 0) (get_or l.else_bits j 0)) (both (add_mux l.condition) l.initial.then_bits l.else_bits (netlist_of l.n l.initial.net)) l.n (length l.initial.then_bits) l.initial.net l.initial.then_bits l.net l.idx l.then_bits l.i × PlainNots (netlist_of l.n l.net)
