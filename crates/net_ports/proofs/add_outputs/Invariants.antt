-- `net_ports::add_outputs` meets its contract. Assumes nothing.
use lib.ListN.{length}
use Rattle.net_ports.specs.Runs.{output_node}
use Rattle.net_ports.proofs.Laws.{Going}
use Rattle.net_ports.proofs.add_outputs.Given as goal

abbrev pub invariant-loop-i : goal.invariant-loop-i
invariant-loop-i l = Going (output_node l.s l.xs) l.n 0 (length l.xs) l.first l.initial.net l.net l.i
