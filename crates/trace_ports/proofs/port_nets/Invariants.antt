-- `trace_ports::port_nets` meets its contract. Assumes nothing.
use Rattle.listing_text.specs.Text.{Wrote}
use Rattle.trace_ports.specs.Ports.{joined}
use Rattle.trace_ports.proofs.port_nets.Given as goal

abbrev pub invariant-loop-port : goal.invariant-loop-port
invariant-loop-port l = Wrote l.initial.out 0 (joined l.net l.kind l.ports l.port-index) l.out l.at
