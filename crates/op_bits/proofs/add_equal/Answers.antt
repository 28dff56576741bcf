-- `op_bits::add_equal` meets its contract. Assumes nothing.
use Rattle.std.proofs.lemmas.Result.{err_from_is_err_and}
use Rattle.spec_model.specs.Lowering.{add_equal}
use Rattle.op_bits.proofs.Laws.{then_out, then_net}
use Rattle.op_bits.proofs.add_equal.Goals as goal

pub returns-in_err-different : goal.returns-in_err-different
unfolding add_equal
returns-in_err-different c =
    let p = err_from_is_err_and c.from_residual.result c.from_residual.ensures.1 in
    rw (p.1, p.2) (then_out _ _ _ _ _ _ c.in_err-different.ensures)

pub returns : goal.returns
unfolding add_equal
returns c = then_net _ _ _ _ _ _ _ _ _ c.in_ok-different.ensures c.add_not.ensures
