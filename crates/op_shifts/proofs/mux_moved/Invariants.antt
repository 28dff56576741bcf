-- `op_shifts::mux_moved` meets its contract. Assumes nothing.
use lib.ListN.{length, get_or}
use Rattle.spec_model.specs.Builder.{both, add_mux}
use Rattle.spec_model.specs.Lowering.{shifted}
use Rattle.net_view.specs.View.{netlist_of}
use Rattle.net_gates.specs.Nots.{PlainNots}
use Rattle.op_shifts.specs.Kinds.{shift_of}
use Rattle.op_bits.proofs.Laws.{Going}
use Rattle.op_shifts.proofs.mux_moved.Given as goal

abbrev pub invariant-loop-i : goal.invariant-loop-i
invariant-loop-i l =
    Going (λ j. add_mux l.select (get_or (shifted (shift_of l.kind) l.z l.distance l.original) j 0) (get_or l.original j 0)) (both (add_mux l.select) (shifted (shift_of l.kind) l.z l.distance l.original) l.original (netlist_of l.n l.initial.net)) l.n (length l.original) l.initial.net l.initial.xs l.net l.idx l.xs l.i
    × PlainNots (netlist_of l.n l.net)
