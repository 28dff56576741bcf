-- `op_trees::level` meets its contract. Assumes nothing.
use native.Mathlib.Omega.{arith}
use Rattle.std.proofs.lemmas.Result.{err_from_is_err_and}
use Rattle.op_bits.specs.Kinds.{gate_of}
use Rattle.op_trees.proofs.Laws.{level_more, level_out, level_done}
use Rattle.op_trees.proofs.level.Goals as goal

pub returns-in_err-xs : goal.returns-in_err-xs
returns-in_err-xs c =
    let p = err_from_is_err_and c.from_residual.result c.from_residual.ensures.1 in
    rw (p.1, p.2) (level_out (gate_of c.args.g) _ _ _ _ _ _ _ _ (omega arith) (omega arith) c.loop-i.invariant _ _ _ _ (omega arith) c.in_err-xs.ensures)

pub loop-i-preserved : goal.loop-i-preserved
loop-i-preserved c = level_more (gate_of c.args.g) _ _ _ _ _ _ _ _ (omega arith) (omega arith) c.loop-i.invariant _ _ _ (omega arith) c.add_gate.auto.net c.in_ok-xs.ensures

pub returns : goal.returns
returns c = rw c.loop-i.invariant.sized (level_done _ _ _ _ _ _ _ _ _ (omega arith) (omega arith) c.loop-i.invariant (omega arith))
