-- `phase_outputs::connect_output` meets its contract. Assumes nothing.
use Rattle.walk_view.specs.View.{walk_state}
use Rattle.phase_parts.specs.Ran.{ran_as, ran_none}
use Rattle.phase_outputs.proofs.Laws.{width_is, no_output, output}
use Rattle.phase_outputs.proofs.connect_output.Goals as goal

pub connect_port-requires : goal.connect_port-requires
connect_port-requires c =
    let signal-at = c.signal_at-x in
    let pre = c.requires in
    let a = c.args in
    (pre.0, pre.1, pre.2, width_is a.image.now a.p signal-at.result signal-at.ensures (walk_state a.image.now a.net.now a.scr.now))

pub returns-in-Internal : goal.returns-in-Internal
returns-in-Internal c =
    let a = c.args in
    ran_as (no_output a.image.now a.p _ c.signal_at-x.ensures (walk_state a.image.now a.net.now a.scr.now) c.in-Internal.is) (ran_none a.image.now a.net.now a.scr.now c.requires.0 c.requires.1)

pub returns-in-Output : goal.returns-in-Output
returns-in-Output c =
    let signal-at = c.signal_at-x in
    let a = c.args in
    ran_as (output a.image.now a.p signal-at.result signal-at.ensures (walk_state a.image.now a.net.now a.scr.now) c.in-Output.is) c.connect_port.ensures
