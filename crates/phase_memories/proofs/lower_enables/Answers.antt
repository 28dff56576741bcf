-- `phase_memories::lower_enables` meets its contract. Assumes nothing.
use mathlib.Core.Path.{refl}
use native.Mathlib.Omega.{arith}
use Rattle.spec_model.specs.Lowering.{Bit, control_steps}
use Rattle.image_records.specs.Others.{control_means, enable_means, port_means}
use Rattle.walk_view.proofs.Errors.{err_is}
use Rattle.walk_invariant.specs.Steps.{gives_one}
use Rattle.phase_parts.specs.Steps.{gives_then, gives_out}
use Rattle.phase_memories.proofs.lower_enables.Goals as goal

pub resolve_signal_bit-requires : goal.resolve_signal_bit-requires
unfolding port_means control_means
resolve_signal_bit-requires c =
    let pre = c.requires in
    (pre.0, pre.1, pre.2.write_enable.there, omega (arith, pre.2.write_enable.one))

pub returns-in_err-resolve_signal_bit : goal.returns-in_err-resolve_signal_bit
unfolding port_means control_means
returns-in_err-resolve_signal_bit c =
    let pre = c.requires in
    let a = c.args in
    rw (err_is _ _ c.from_residual.ensures) (gives_out (control_steps (enable_means a.p.read_enable))
    (gives_one a.image.now a.net.now a.scr.now (Bit a.p.write_enable.signal 0) _ _ _ pre.0 pre.1 (pre.2.write_enable.there, omega (arith, pre.2.write_enable.one)) c.in_err-resolve_signal_bit.ensures) tt)

pub lower_control-requires : goal.lower_control-requires
unfolding port_means control_means
lower_control-requires c =
    let pre = c.requires in
    let a = c.args in
    let g = gives_one a.image.now a.net.now a.scr.now (Bit a.p.write_enable.signal 0) _ _ _ pre.0 pre.1 (pre.2.write_enable.there, omega (arith, pre.2.write_enable.one)) c.in_ok-resolve_signal_bit.ensures in
    (g.ready, g.sure refl, pre.2.read_enable)

pub returns : goal.returns
unfolding port_means control_means
returns c =
    let pre = c.requires in
    let a = c.args in
    let g = gives_one a.image.now a.net.now a.scr.now (Bit a.p.write_enable.signal 0) _ _ _ pre.0 pre.1 (pre.2.write_enable.there, omega (arith, pre.2.write_enable.one)) c.in_ok-resolve_signal_bit.ensures in
    gives_then (control_steps (enable_means a.p.read_enable)) g refl c.lower_control.ensures
