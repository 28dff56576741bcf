-- `op_shifts::mux_moved` meets its contract. Assumes nothing.
use native.Mathlib.Omega.{arith}
use Rattle.std.proofs.lemmas.Result.{err_from_is_err_and}
use Rattle.net_gates.specs.Nots.{kept_mux}
use Rattle.op_shifts.specs.Kinds.{shift_of}
use Rattle.op_bits.proofs.Laws.{going_start, going_more, going_out, going_all}
use Rattle.op_shifts.proofs.Laws.{stage_nets}
use Rattle.op_shifts.proofs.mux_moved.Goals as goal

pub loop-i-init : goal.loop-i-init
loop-i-init c =
    let s = c.args in
    (going_start _ _ _ _ _ _ _ c.requires.0 (stage_nets s.select (shift_of s.kind) s.z s.distance s.original.now _), c.requires.4)

pub returns-in_err-xs : goal.returns-in_err-xs
returns-in_err-xs c =
    let p = err_from_is_err_and c.from_residual.result c.from_residual.ensures.1 in
    rw (p.1, p.2) (going_out _ _ _ _ _ _ _ _ _ _ c.loop-i.invariant.0 c.in_err-xs.field-0.0 _ _ _ (omega arith) (rw c.moved_bit-shifted.ensures at c.in_err-xs.ensures))

pub loop-i-preserved : goal.loop-i-preserved
loop-i-preserved c =
    let loop = c.loop-i in (
      going_more _ _ _ _ _ _ _ _ _ _ loop.invariant.0 _ _ _ (omega arith) (omega (arith, c.requires.1)) c.add_mux.auto.net (rw c.moved_bit-shifted.ensures at c.in_ok-xs.ensures),
      kept_mux _ _ _ loop.invariant.1 c.in_ok-xs.ensures,
    )

pub returns : goal.returns
returns c = going_all _ _ _ _ _ _ _ _ _ _ c.loop-i.invariant.0 (omega (arith, c.loop-i.invariant.0.sized)) (omega arith)
