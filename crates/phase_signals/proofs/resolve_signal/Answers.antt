-- `phase_signals::resolve_signal` meets its contract. Assumes nothing.
use Prim.Native.Nat.{◌<◌}
use native.Mathlib.Omega.{arith}
use mathlib.Core.Path.{refl}
use Rattle.walk_view.proofs.Errors.{err_is}
use Rattle.spec_rules.specs.Image.{signal_width}
use Rattle.spec_model.specs.Lowering.{Bit}
use Rattle.walk_invariant.specs.Steps.{steps_next, steps_out, steps_end, bits_next, bits_end}
use Rattle.phase_signals.proofs.resolve_signal.Goals as goal

pub returns-in_err-resolve_signal_bit : goal.returns-in_err-resolve_signal_bit
returns-in_err-resolve_signal_bit c =
    let more = c.loop-b-test.true in
    let q = c.loop-b in
    let a = c.args in
    let pre = c.requires in
    let here : q.b < signal_width a.image.now a.p = omega (arith, pre.3, more) in
    rw (err_is _ _ c.from_residual.ensures)
    (steps_out a.image.now a.net.now a.scr.now _ _ q.net q.scr q.invariant (Bit a.p q.b) _ (bits_next a.p q.b a.w more) (pre.2, here) _ _ _ c.in_err-resolve_signal_bit.ensures tt)

pub loop-b-preserved : goal.loop-b-preserved
loop-b-preserved c =
    let more = c.loop-b-test.true in
    let q = c.loop-b in
    let a = c.args in
    let pre = c.requires in
    let here : q.b < signal_width a.image.now a.p = omega (arith, pre.3, more) in
    steps_next a.image.now a.net.now a.scr.now _ _ q.net q.scr q.invariant (Bit a.p q.b) _ (bits_next a.p q.b a.w more) (pre.2, here) _ _ _ c.in_ok-resolve_signal_bit.ensures refl

pub returns : goal.returns
returns c =
    let q = c.loop-b in
    let a = c.args in
    steps_end a.image.now a.net.now a.scr.now _ _ q.net q.scr q.invariant (bits_end a.p q.b a.w (omega (arith, c.loop-b-test.false)))
