-- `net_ports::put_run` meets its contract. Assumes nothing.
use Rattle.net_ports.proofs.Laws.{Numbered}
use Rattle.net_ports.proofs.put_run.Given as goal

abbrev pub invariant-loop-i : goal.invariant-loop-i
invariant-loop-i l = Numbered l.first l.initial.out l.out l.i
