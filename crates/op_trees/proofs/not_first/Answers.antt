-- `op_trees::not_first` meets its contract. Assumes nothing.
use Rattle.std.proofs.lemmas.Result.{err_from_is_err_and}
use Rattle.spec_model.specs.Builder.{add_not}
use Rattle.net_view.specs.View.{netlist_of}
use Rattle.op_trees.proofs.Laws.{one_done, one_out}
use Rattle.op_trees.proofs.not_first.Goals as goal

pub returns-in_err-xs : goal.returns-in_err-xs
returns-in_err-xs c =
    let s = c.args in
    let p = err_from_is_err_and c.from_residual.result c.from_residual.ensures.1 in
    rw (p.1, p.2) (one_out add_not s.xs.now (netlist_of s.n s.net.now) _ _ _ c.requires.1 _ _ c.in_err-xs.ensures)

pub returns : goal.returns
returns c = let s = c.args in one_done add_not s.xs.now (netlist_of s.n s.net.now) _ _ _ c.requires.1 _ c.in_ok-xs.ensures
