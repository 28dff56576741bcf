-- `phase_registers::connect_registers` meets its contract. Assumes nothing.
use mathlib.Core.Path.{refl}
use mathlib.Core.Bool.{false}
use Prim.Native.Nat.{◌-◌}
use native.Mathlib.Omega.{arith}
use Rattle.walk_view.specs.Turns.{turning_start, turning_more, turning_out, turning_end}
use Rattle.walk_view.proofs.Errors.{err_is}
use Rattle.phase_parts.specs.Ran.{ran_phase}
use Rattle.phase_registers.proofs.Laws.{all_registers}
use Rattle.phase_registers.proofs.connect_registers.Goals as goal

pub loop-k-init : goal.loop-k-init
loop-k-init c =
    (turning_start _ _ _ _ _ _ _ c.count-n.ensures (all_registers c.args.image.now _) c.requires.0, c.requires.1)

pub connect_register-requires : goal.connect_register-requires
connect_register-requires c =
    let q = c.loop-k in
    (q.invariant.0.ready, q.invariant.1, omega (arith, c.loop-k-test.true, c.count-n.ensures))

pub returns-in_err-connect_register : goal.returns-in_err-connect_register
returns-in_err-connect_register c =
    rw (err_is _ _ c.from_residual.ensures) (turning_out _ _ _ _ _ _ _ _ _ c.loop-k.invariant.0 _ _ _ c.loop-k-test.true tt (ran_phase c.in_err-connect_register.ensures))

pub loop-k-preserved : goal.loop-k-preserved
loop-k-preserved c =
    (turning_more _ _ _ _ _ _ _ _ _ c.loop-k.invariant.0 _ _ _ c.loop-k-test.true refl (ran_phase c.in_ok-connect_register.ensures), c.in_ok-connect_register.ensures.sure refl)

pub returns : goal.returns
returns c = turning_end _ _ _ _ _ _ _ _ _ c.loop-k.invariant.0 c.loop-k-test.false
