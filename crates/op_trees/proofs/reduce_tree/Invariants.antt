-- `op_trees::reduce_tree` meets its contract. Assumes nothing.
use Prim.Native.Nat.{◌-◌}
use lib.ListN.{length}
use Rattle.net_view.specs.View.{netlist_of}
use Rattle.spec_model.specs.Lowering.{levels}
use Rattle.op_bits.specs.Kinds.{gate_of}
use Rattle.op_trees.proofs.Laws.{Reducing}
use Rattle.op_trees.proofs.reduce_tree.Given as goal

abbrev pub invariant-loop-len : goal.invariant-loop-len
invariant-loop-len l = Reducing (levels (length l.initial.xs - 1) (gate_of l.g) l.initial.xs (netlist_of l.n l.initial.net)) (gate_of l.g) l.n l.initial.net l.initial.xs l.net l.idx l.xs l.len

abbrev pub decreases-loop-len : goal.decreases-loop-len
decreases-loop-len l = l.len
