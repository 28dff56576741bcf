-- `net_ports::add_nodes` meets its contract. Assumes nothing.
use Rattle.spec_model.specs.Words.{source}
use Rattle.net_ports.proofs.Laws.{Going}
use Rattle.net_ports.proofs.add_nodes.Given as goal

abbrev pub invariant-loop-i : goal.invariant-loop-i
invariant-loop-i l = Going (source l.kind l.owner) l.n l.b l.w l.first l.initial.net l.net l.i
