-- `phase_sources::reserve_registers` meets its contract. Assumes nothing.
use mathlib.Core.Path.{refl}
use Rattle.walk_view.proofs.Errors.{err_is}
use Rattle.walk_view.specs.Turns.{turning_start, turning_more, turning_out, turning_end}
use Rattle.phase_sources.specs.Reserves.{registers_turn}
use Rattle.phase_sources.proofs.reserve_registers.Goals as goal

pub loop-k-init : goal.loop-k-init
loop-k-init c = turning_start _ _ _ _ _ _ _ c.count-count.ensures (registers_turn c.args.image.now _) c.requires

pub returns-in_err-reserve_register : goal.returns-in_err-reserve_register
returns-in_err-reserve_register c =
    rw (err_is _ _ c.from_residual.ensures) (turning_out _ _ _ _ _ _ _ _ _ c.loop-k.invariant _ _ _ c.loop-k-test.true tt c.in_err-reserve_register.ensures)

pub loop-k-preserved : goal.loop-k-preserved
loop-k-preserved c =
    turning_more _ _ _ _ _ _ _ _ _ c.loop-k.invariant _ _ _ c.loop-k-test.true refl c.in_ok-reserve_register.ensures

pub returns : goal.returns
returns c = turning_end _ _ _ _ _ _ _ _ _ c.loop-k.invariant c.loop-k-test.false
