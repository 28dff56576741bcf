-- `op_trees::level` meets its contract. Assumes nothing.
use Rattle.net_view.specs.View.{netlist_of}
use Rattle.op_bits.specs.Kinds.{gate_of}
use Rattle.op_bits.proofs.Laws.{nets, Going}
use Rattle.op_trees.proofs.Laws.{pair_at}
use Rattle.op_trees.proofs.level.Given as goal

abbrev pub invariant-loop-i : goal.invariant-loop-i
invariant-loop-i l = Going (pair_at (gate_of l.g) l.initial.xs) (nets (pair_at (gate_of l.g) l.initial.xs) 0 l.half (netlist_of l.n l.initial.net)) l.n l.half l.initial.net l.initial.xs l.net l.idx l.xs l.i
