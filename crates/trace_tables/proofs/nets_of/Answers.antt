-- `trace_tables::nets_of` meets its contract. Assumes nothing.
use native.Mathlib.Omega.{arith}
use Rattle.std.proofs.Common.{ap, ◌∙◌, length, take, take_all}
use Rattle.trace_ports.specs.Ports.{joined_is}
use Rattle.trace_tables.specs.Few.{nets_few}
use Rattle.trace_tables.proofs.nets_of.Goals as goal

pub returns : goal.returns
returns c =
    let j = joined_is c.args.net.now c.requires.0 c.args.kind c.places-ports.ensures.places in
    let f = nets_few c.args.net.now c.args.kind in
    c.port_nets.ensures ∙ ap (take (length c.args.out.now)) j ∙ take_all _ _ (omega (arith, f, c.requires.1, c.requires.2))
