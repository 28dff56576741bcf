-- `phase_outputs::connect_outputs` meets its contract. Assumes nothing.
use mathlib.Core.Path.{refl}
use mathlib.Core.Bool.{false}
use Prim.Native.Nat.{◌-◌}
use native.Mathlib.Omega.{arith}
use Rattle.walk_view.specs.Turns.{turning_start, turning_more, turning_out, turning_end}
use Rattle.walk_view.proofs.Errors.{err_is}
use Rattle.phase_parts.specs.Ran.{ran_phase}
use Rattle.phase_outputs.proofs.Laws.{all_outputs}
use Rattle.phase_outputs.proofs.connect_outputs.Goals as goal

pub loop-p-init : goal.loop-p-init
loop-p-init c =
    (turning_start _ _ _ _ _ _ _ c.count-n.ensures (all_outputs c.args.image.now _) c.requires.0, c.requires.1)

pub connect_output-requires : goal.connect_output-requires
connect_output-requires c =
    let q = c.loop-p in
    (q.invariant.0.ready, q.invariant.1, omega (arith, c.loop-p-test.true, c.count-n.ensures))

pub returns-in_err-connect_output : goal.returns-in_err-connect_output
returns-in_err-connect_output c =
    rw (err_is _ _ c.from_residual.ensures) (turning_out _ _ _ _ _ _ _ _ _ c.loop-p.invariant.0 _ _ _ c.loop-p-test.true tt (ran_phase c.in_err-connect_output.ensures))

pub loop-p-preserved : goal.loop-p-preserved
loop-p-preserved c =
    (turning_more _ _ _ _ _ _ _ _ _ c.loop-p.invariant.0 _ _ _ c.loop-p-test.true refl (ran_phase c.in_ok-connect_output.ensures), c.in_ok-connect_output.ensures.sure refl)

pub returns : goal.returns
returns c = turning_end _ _ _ _ _ _ _ _ _ c.loop-p.invariant.0 c.loop-p-test.false
