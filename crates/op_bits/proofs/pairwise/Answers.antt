-- `op_bits::pairwise` meets its contract. Assumes nothing.
use native.Mathlib.Omega.{arith}
use Rattle.std.proofs.lemmas.Result.{err_from_is_err_and}
use Rattle.op_bits.proofs.Laws.{going_start, going_more, going_out, going_all, both_nets}
use Rattle.op_bits.proofs.pairwise.Goals as goal

pub loop-i-init : goal.loop-i-init
loop-i-init c = going_start _ _ _ _ _ _ _ c.requires.0 (both_nets _ _ _ _ c.requires.1)

pub returns-in_err-xs : goal.returns-in_err-xs
returns-in_err-xs c =
    let loop = c.loop-i in
    let p = err_from_is_err_and c.from_residual.result c.from_residual.ensures.1 in
    rw (p.1, p.2) (going_out _ _ _ _ _ _ _ _ _ _ loop.invariant c.in_err-xs.field-0.0 _ _ _ (omega arith) (rw (← loop.invariant.rest loop.i (omega arith)) c.in_err-xs.ensures))

pub loop-i-preserved : goal.loop-i-preserved
loop-i-preserved c =
    let loop = c.loop-i in
    going_more _ _ _ _ _ _ _ _ _ _ loop.invariant c.in_ok-xs.field-0 _ _ (omega arith) (omega arith) c.add_pair.auto.net
    (rw (← loop.invariant.rest loop.i (omega arith)) c.in_ok-xs.ensures)

pub returns : goal.returns
returns c = going_all _ _ _ _ _ _ _ _ _ _ c.loop-i.invariant (omega (arith, c.loop-i.invariant.sized)) (omega arith)
