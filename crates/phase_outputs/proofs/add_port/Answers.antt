-- `phase_outputs::add_port` meets its contract. Assumes nothing.
use mathlib.Core.Path.{sym, ap, ◌∙◌}
use native.Mathlib.Omega.{arith}
use lib.ListN.{length}
use Rattle.walk_view.proofs.Errors.{err_is}
use Rattle.net_view.specs.View.{netlist_of}
use Rattle.scratch_view.specs.View.{limit_of}
use Rattle.scratch_view.specs.Bounds.{signals_long}
use Rattle.phase_outputs.proofs.Laws.{copied, port_made, no_room}
use Rattle.phase_outputs.proofs.add_port.Goals as goal

pub slice_bounds-add_output_port-end : goal.slice_bounds-add_output_port-end
slice_bounds-add_output_port-end c =
    let pre = c.requires in
    let a = c.args in
    let l = netlist_of (limit_of a.scr.now) a.net.now in
    let long = signals_long a.image.now a.scr.now l a.p 0 a.n pre.2 (omega (arith, pre.3)) in
    sym (ap length (copied _ _ a.n pre.4 long (c.copy_signal.ensures l)) ∙ long)

pub add_output_port-requires : goal.add_output_port-requires
add_output_port-requires c =
    let pre = c.requires in
    let a = c.args in
    let l = netlist_of (limit_of a.scr.now) a.net.now in
    let long = signals_long a.image.now a.scr.now l a.p 0 a.n pre.2 (omega (arith, pre.3)) in
    (pre.0.held.built, omega (arith, ap length (copied _ _ a.n pre.4 long (c.copy_signal.ensures l)), long, pre.4))

pub returns-in_err-add_output_port : goal.returns-in_err-add_output_port
returns-in_err-add_output_port c =
    let pre = c.requires in
    let a = c.args in
    let l = netlist_of (limit_of a.scr.now) a.net.now in
    let long = signals_long a.image.now a.scr.now l a.p 0 a.n pre.2 (omega (arith, pre.3)) in
    rw (err_is _ _ c.from_residual.ensures)
    (no_room a.image.now a.net.now a.scr.now a.p a.n pre.0 pre.1 pre.5 _ _ c.add_output_port.auto.net _ (rw (copied _ _ a.n pre.4 long (c.copy_signal.ensures l)) at c.in_err-add_output_port.ensures))

pub returns : goal.returns
returns c =
    let pre = c.requires in
    let a = c.args in
    let l = netlist_of (limit_of a.scr.now) a.net.now in
    let long = signals_long a.image.now a.scr.now l a.p 0 a.n pre.2 (omega (arith, pre.3)) in
    port_made a.image.now a.net.now a.scr.now a.p a.n pre.0 pre.1 pre.5 _ _ c.add_output_port.auto.net _ (rw (copied _ _ a.n pre.4 long (c.copy_signal.ensures l)) at c.in_ok-add_output_port.ensures)
