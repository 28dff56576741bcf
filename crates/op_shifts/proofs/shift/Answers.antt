-- `op_shifts::shift` meets its contract. Assumes nothing.
use Rattle.std.proofs.lemmas.Result.{err_from_is_err_and}
use Rattle.net_view.specs.View.{netlist_of}
use Rattle.net_gates.specs.Nots.{kept_constant}
use Rattle.op_shifts.specs.Kinds.{shift_of}
use Rattle.op_shifts.proofs.Laws.{shift_done, shift_out}
use Rattle.op_shifts.proofs.shift.Goals as goal

pub returns-in_err-z : goal.returns-in_err-z
returns-in_err-z c =
    let s = c.args in
    let p = err_from_is_err_and c.from_residual.result c.from_residual.ensures.1 in
    rw (p.1, p.2) (shift_out (shift_of s.kind) s.xs.now s.amount.now (netlist_of s.n s.net.now) _ _ _ _ _ c.in_err-z.ensures)

pub shift_stages-requires : goal.shift_stages-requires
shift_stages-requires c = (c.add_constant.ensures.held, c.requires.1, c.requires.2, kept_constant _ c.requires.3 c.in_ok-z.ensures)

pub returns : goal.returns
returns c =
    let s = c.args in
    shift_done (shift_of s.kind) s.xs.now s.amount.now (netlist_of s.n s.net.now) _ _ _ _ _ _ _ _ c.in_ok-z.ensures c.shift_stages.ensures
