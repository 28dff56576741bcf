-- `phase_registers::lower_register` meets its contract. Assumes nothing.
use mathlib.Core.Path.{refl}
use native.Mathlib.Omega.{arith}
use Rattle.image_records.specs.Others.{register_means}
use Rattle.walk_view.proofs.Errors.{err_is}
use Rattle.phase_parts.specs.Steps.{gives_none}
use Rattle.phase_register_records.specs.Registers.{ThereReset}
use Rattle.phase_register_records.proofs.Laws.{no_reset, reset_is, there_reset}
use Rattle.phase_registers.proofs.Laws.{next_given, next_out, clock_given, clock_out, enable_given, enable_out, reset_given}
use Rattle.phase_registers.proofs.lower_register.Goals as goal

pub lower_expression-requires : goal.lower_expression-requires
unfolding register_means
lower_expression-requires c = (c.requires.0, c.requires.1, c.requires.2.next.there)

pub returns-in_err-lower_expression : goal.returns-in_err-lower_expression
returns-in_err-lower_expression c =
    let pre = c.requires in
    rw (err_is _ _ c.from_residual.ensures) (next_out _ _ _ c.args.x pre.0 pre.1 pre.2 _ _ _ c.in_err-lower_expression.ensures tt)

pub resolve_signal_bit-requires : goal.resolve_signal_bit-requires
unfolding register_means
resolve_signal_bit-requires c =
    let pre = c.requires in
    let g = next_given _ _ _ c.args.x pre.0 pre.1 pre.2 _ _ _ c.in_ok-lower_expression.ensures in
    (g.ready, g.sure refl, pre.2.clock.there, omega (arith, pre.2.clock.one))

pub returns-in_err-resolve_signal_bit : goal.returns-in_err-resolve_signal_bit
returns-in_err-resolve_signal_bit c =
    let pre = c.requires in
    rw (err_is _ _ c.from_residual-in_err-resolve_signal_bit.ensures)
    (clock_out _ _ _ c.args.x pre.0 pre.1 pre.2 _ _ _ c.in_ok-lower_expression.ensures refl _ _ _ c.in_err-resolve_signal_bit.ensures tt)

pub lower_control-requires : goal.lower_control-requires
unfolding register_means
lower_control-requires c =
    let pre = c.requires in
    let g = clock_given _ _ _ c.args.x pre.0 pre.1 pre.2 _ _ _ c.in_ok-lower_expression.ensures refl _ _ _ c.in_ok-resolve_signal_bit.ensures in
    (g.ready, g.sure refl, pre.2.enable)

pub returns-in_err-lower_control : goal.returns-in_err-lower_control
returns-in_err-lower_control c =
    let pre = c.requires in
    rw (err_is _ _ c.from_residual-in_err-lower_control.ensures)
    (enable_out _ _ _ c.args.x pre.0 pre.1 pre.2 _ _ _ c.in_ok-lower_expression.ensures refl _ _ _ c.in_ok-resolve_signal_bit.ensures refl _ _ _ c.in_err-lower_control.ensures tt)

pub returns-in-None : goal.returns-in-None
returns-in-None c =
    let pre = c.requires in
    let g = enable_given _ _ _ c.args.x pre.0 pre.1 pre.2 _ _ _ c.in_ok-lower_expression.ensures refl _ _ _ c.in_ok-resolve_signal_bit.ensures refl _ _ _ c.in_ok-lower_control.ensures in
    reset_given _ _ _ c.args.x pre.0 pre.1 pre.2 _ _ _ c.in_ok-lower_expression.ensures refl _ _ _ c.in_ok-resolve_signal_bit.ensures refl _ _ _ c.in_ok-lower_control.ensures refl _ _ _
    (rw (no_reset c.args.x c.in-None.is) (gives_none _ _ _ g.ready (g.sure refl)))

pub lower_reset-requires : goal.lower_reset-requires
lower_reset-requires c =
    let pre = c.requires in
    let g = enable_given _ _ _ c.args.x pre.0 pre.1 pre.2 _ _ _ c.in_ok-lower_expression.ensures refl _ _ _ c.in_ok-resolve_signal_bit.ensures refl _ _ _ c.in_ok-lower_control.ensures in
    (g.ready, g.sure refl, there_reset c.args.x c.in-Some.y c.in-Some.is _ pre.2)

pub returns-in-Some : goal.returns-in-Some
returns-in-Some c =
    let pre = c.requires in
    reset_given _ _ _ c.args.x pre.0 pre.1 pre.2 _ _ _ c.in_ok-lower_expression.ensures refl _ _ _ c.in_ok-resolve_signal_bit.ensures refl _ _ _ c.in_ok-lower_control.ensures refl _ _ _
    (rw (reset_is c.args.x c.in-Some.y c.in-Some.is) c.lower_reset.ensures)
