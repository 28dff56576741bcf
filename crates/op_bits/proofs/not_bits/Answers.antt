-- `op_bits::not_bits` meets its contract. Assumes nothing.
use native.Mathlib.Omega.{arith}
use Rattle.std.proofs.lemmas.Result.{err_from_is_err_and}
use Rattle.op_bits.proofs.Laws.{going_start, going_more, going_out, going_all, each_nets}
use Rattle.op_bits.proofs.not_bits.Goals as goal

pub loop-x-init : goal.loop-x-init
loop-x-init c = going_start _ _ _ _ _ _ _ c.requires (each_nets _ _ _)

pub returns-in_err-x : goal.returns-in_err-x
returns-in_err-x c =
    let loop = c.loop-x in
    let p = err_from_is_err_and c.from_residual.result c.from_residual.ensures.1 in
    rw (p.1, p.2) (going_out _ _ _ _ _ _ _ _ _ _ loop.invariant c.in_err-x.field-0.0 _ _ _ (omega arith) (rw (← loop.invariant.rest loop.x-index (omega arith)) c.in_err-x.ensures))

pub loop-x-preserved : goal.loop-x-preserved
loop-x-preserved c =
    let loop = c.loop-x in
    going_more _ _ _ _ _ _ _ _ _ _ loop.invariant c.in_ok-x.field-0 _ _ (omega arith) (omega arith) c.add_not.auto.net
    (rw (← loop.invariant.rest loop.x-index (omega arith)) c.in_ok-x.ensures)

pub returns : goal.returns
returns c = going_all _ _ _ _ _ _ _ _ _ _ c.loop-x.invariant (omega (arith, c.loop-x.invariant.sized)) (omega arith)
