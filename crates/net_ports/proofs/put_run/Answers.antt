-- `net_ports::put_run` meets its contract. Assumes nothing.
use native.Mathlib.Omega.{arith}
use Rattle.net_ports.proofs.Laws.{numbered_start, numbered_more}
use Rattle.net_ports.proofs.put_run.Goals as goal

pub loop-i-init : goal.loop-i-init
loop-i-init c = numbered_start _ _

pub loop-i-preserved : goal.loop-i-preserved
loop-i-preserved c = numbered_more _ _ _ _ c.loop-i.invariant (omega arith)
