-- `phase_registers::lower_reset` meets its contract. Assumes nothing.
use mathlib.Core.Path.{refl}
use native.Mathlib.Omega.{arith}
use Rattle.spec_model.specs.Lowering.{Whole, Bit, bit_step}
use Rattle.walk_view.proofs.Errors.{err_is}
use Rattle.walk_invariant.specs.Steps.{gives_one}
use Rattle.phase_parts.specs.Steps.{gives_then, gives_out}
use Rattle.phase_registers.proofs.lower_reset.Goals as goal

pub returns-in_err-lower_expression : goal.returns-in_err-lower_expression
returns-in_err-lower_expression c =
    let pre = c.requires in
    let a = c.args in
    rw (err_is _ _ c.from_residual.ensures) (gives_out (bit_step a.x.control.signal)
    (gives_one a.image.now a.net.now a.scr.now (Whole a.x.value) _ _ _ pre.0 pre.1 pre.2.1 c.in_err-lower_expression.ensures) tt)

pub resolve_signal_bit-requires : goal.resolve_signal_bit-requires
resolve_signal_bit-requires c =
    let pre = c.requires in
    let a = c.args in
    let g = gives_one a.image.now a.net.now a.scr.now (Whole a.x.value) _ _ _ pre.0 pre.1 pre.2.1 c.in_ok-lower_expression.ensures in
    (g.ready, g.sure refl, pre.2.0.there, omega (arith, pre.2.0.one))

pub returns : goal.returns
returns c =
    let pre = c.requires in
    let a = c.args in
    let g = gives_one a.image.now a.net.now a.scr.now (Whole a.x.value) _ _ _ pre.0 pre.1 pre.2.1 c.in_ok-lower_expression.ensures in
    gives_then (bit_step a.x.control.signal) g refl
    (gives_one a.image.now _ _ (Bit a.x.control.signal 0) _ _ _ g.ready (g.sure refl) (pre.2.0.there, omega (arith, pre.2.0.one)) c.resolve_signal_bit.ensures)
