-- `op_bits::mux_bits` meets its contract. Assumes nothing.
use native.Mathlib.Omega.{arith}
use Rattle.std.proofs.lemmas.Result.{err_from_is_err_and}
use Rattle.net_gates.specs.Nots.{kept_mux}
use Rattle.op_bits.proofs.Laws.{going_start, going_more, going_out, going_all, both_nets}
use Rattle.op_bits.proofs.mux_bits.Goals as goal

pub loop-i-init : goal.loop-i-init
loop-i-init c = (going_start _ _ _ _ _ _ _ c.requires.0 (both_nets _ _ _ _ c.requires.1), c.requires.2)

pub returns-in_err-then_bits : goal.returns-in_err-then_bits
returns-in_err-then_bits c =
    let loop = c.loop-i in
    let p = err_from_is_err_and c.from_residual.result c.from_residual.ensures.1 in
    rw (p.1, p.2) (going_out _ _ _ _ _ _ _ _ _ _ loop.invariant.0 c.in_err-then_bits.field-0.0 _ _ _ (omega arith) (rw (← loop.invariant.0.rest loop.i (omega arith)) c.in_err-then_bits.ensures))

pub loop-i-preserved : goal.loop-i-preserved
loop-i-preserved c =
    let loop = c.loop-i in (
      going_more _ _ _ _ _ _ _ _ _ _ loop.invariant.0 c.in_ok-then_bits.field-0 _ _ (omega arith) (omega arith) c.add_mux.auto.net
          (rw (← loop.invariant.0.rest loop.i (omega arith)) c.in_ok-then_bits.ensures),
      kept_mux _ _ _ loop.invariant.1 c.in_ok-then_bits.ensures,
    )

pub returns : goal.returns
returns c = going_all _ _ _ _ _ _ _ _ _ _ c.loop-i.invariant.0 (omega (arith, c.loop-i.invariant.0.sized)) (omega arith)
