-- `trace_ports::put_all` meets its contract. Assumes nothing.
use native.Mathlib.Omega.{arith}
use Rattle.trace_ports.specs.Ports.{wrote_copy}
use Rattle.trace_ports.proofs.put_all.Goals as goal

pub returns : goal.returns
returns c = wrote_copy c.args.out.now c.args.list.now _ _ _ _ c.requires c.min-n.ensures (omega arith) (c.copy_from_slice.ensures.after)
