-- `phase_sources::reserve_inputs` meets its contract. Assumes nothing.
use mathlib.Core.Path.{refl}
use Rattle.walk_view.proofs.Errors.{err_is}
use Rattle.walk_view.specs.Turns.{turning_start, turning_more, turning_out, turning_end}
use Rattle.phase_sources.specs.Reserves.{inputs_turn}
use Rattle.phase_sources.proofs.reserve_inputs.Goals as goal

pub loop-p-init : goal.loop-p-init
loop-p-init c = turning_start _ _ _ _ _ _ _ c.count-count.ensures (inputs_turn c.args.image.now _) c.requires

pub returns-in_err-reserve_input : goal.returns-in_err-reserve_input
returns-in_err-reserve_input c =
    rw (err_is _ _ c.from_residual.ensures) (turning_out _ _ _ _ _ _ _ _ _ c.loop-p.invariant _ _ _ c.loop-p-test.true tt c.in_err-reserve_input.ensures)

pub loop-p-preserved : goal.loop-p-preserved
loop-p-preserved c =
    turning_more _ _ _ _ _ _ _ _ _ c.loop-p.invariant _ _ _ c.loop-p-test.true refl c.in_ok-reserve_input.ensures

pub returns : goal.returns
returns c = turning_end _ _ _ _ _ _ _ _ _ c.loop-p.invariant c.loop-p-test.false
