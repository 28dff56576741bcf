-- `trace_ports::port_nets` meets its contract. Assumes nothing.
use native.Mathlib.Omega.{arith}
use Rattle.listing_text.specs.Text.{wrote_none, wrote_same, wrote_more}
use Rattle.trace_ports.specs.Ports.{joined_none, joined_more}
use Rattle.trace_ports.proofs.port_nets.Goals as goal

pub loop-port-init : goal.loop-port-init
loop-port-init c = wrote_same (joined_none _ _ _) (wrote_none _ _ (omega arith))

pub loop-port-preserved : goal.loop-port-preserved
loop-port-preserved c = wrote_same (joined_more _ _ _ _) (wrote_more c.loop-port.invariant c.put_port-at.ensures)
