-- `phase_memories::connect_memories` meets its contract. Assumes nothing.
use mathlib.Core.Path.{refl}
use mathlib.Core.Bool.{false}
use Prim.Native.Nat.{◌-◌}
use native.Mathlib.Omega.{arith}
use Rattle.walk_view.specs.Turns.{turning_start, turning_more, turning_out, turning_end}
use Rattle.walk_view.proofs.Errors.{err_is}
use Rattle.phase_parts.specs.Ran.{ran_phase}
use Rattle.phase_memories.proofs.Laws.{all_memories}
use Rattle.phase_memories.proofs.connect_memories.Goals as goal

pub loop-k-init : goal.loop-k-init
loop-k-init c =
    (turning_start _ _ _ _ _ _ _ c.count-n.ensures (all_memories c.args.image.now _) c.requires.0, c.requires.1)

pub connect_memory-requires : goal.connect_memory-requires
connect_memory-requires c =
    let q = c.loop-k in
    (q.invariant.0.ready, q.invariant.1, omega (arith, c.loop-k-test.true, c.count-n.ensures))

pub returns-in_err-connect_memory : goal.returns-in_err-connect_memory
returns-in_err-connect_memory c =
    rw (err_is _ _ c.from_residual.ensures) (turning_out _ _ _ _ _ _ _ _ _ c.loop-k.invariant.0 _ _ _ c.loop-k-test.true tt (ran_phase c.in_err-connect_memory.ensures))

pub loop-k-preserved : goal.loop-k-preserved
loop-k-preserved c =
    (turning_more _ _ _ _ _ _ _ _ _ c.loop-k.invariant.0 _ _ _ c.loop-k-test.true refl (ran_phase c.in_ok-connect_memory.ensures), c.in_ok-connect_memory.ensures.sure refl)

pub returns : goal.returns
returns c = turning_end _ _ _ _ _ _ _ _ _ c.loop-k.invariant.0 c.loop-k-test.false
