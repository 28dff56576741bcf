-- `phase_registers::connect_register` meets its contract. Assumes nothing.
use mathlib.Core.Path.{refl, sym, subst}
use Rattle.image_records.specs.Others.{register_means}
use Rattle.walk_view.specs.View.{walk_state}
use Rattle.walk_view.proofs.Errors.{err_is}
use Rattle.phase_parts.specs.Ran.{ran_as, ran_then, ran_out}
use Rattle.phase_parts.specs.Steps.{all_ran}
use Rattle.phase_register_records.specs.Registers.{bits_turn, There}
use Rattle.phase_registers.proofs.Laws.{register_there, register_whole, turn_as}
use Rattle.phase_registers.proofs.connect_register.Goals as goal

pub lower_register-requires : goal.lower_register-requires
lower_register-requires c =
    let pre = c.requires in
    let a = c.args in
    (pre.0, pre.1, subst (There a.image.now) (sym c.register_at-x.ensures) (register_there a.image.now a.k pre.0.accepted pre.2))

pub returns-in_err-lower_register : goal.returns-in_err-lower_register
returns-in_err-lower_register c =
    let a = c.args in
    let x = c.register_at-x in
    rw (err_is _ _ c.from_residual.ensures) (ran_as (turn_as a.image.now a.k x.result (walk_state a.image.now a.net.now a.scr.now) x.ensures)
    (ran_out (bits_turn a.image.now a.k (register_means x.result)) (all_ran c.in_err-lower_register.ensures) tt))

pub push_bits-requires : goal.push_bits-requires
push_bits-requires c =
    let pre = c.requires in
    let a = c.args in
    let g = c.in_ok-lower_register.ensures in
    let h = subst (There a.image.now) (sym c.register_at-x.ensures) (register_there a.image.now a.k pre.0.accepted pre.2) in
    (g.ready, g.sure refl, h, register_whole h g refl)

pub returns : goal.returns
returns c =
    let a = c.args in
    let x = c.register_at-x in
    ran_as (turn_as a.image.now a.k x.result (walk_state a.image.now a.net.now a.scr.now) x.ensures)
    (ran_then (bits_turn a.image.now a.k (register_means x.result)) (all_ran c.in_ok-lower_register.ensures) refl c.push_bits.ensures)
