-- `net_gate_index::find_gate` meets its contract. Assumes nothing.
use lib.ListN.{get_or}
use Rattle.spec_model.specs.Words.{absent, node}
use Rattle.net_index.specs.Laws.{At}
use Rattle.net_gate_index.proofs.find_gate.Given as goal

abbrev pub invariant-loop-p : goal.invariant-loop-p
invariant-loop-p l = At l.n (node l.kind l.owner absent l.a l.b l.c) l.net (get_or l.net 1 0) l.p

abbrev pub decreases-loop-p : goal.decreases-loop-p
decreases-loop-p l = l.p
