-- `walk_job_parts::extend` meets its contract. Assumes nothing.
use Rattle.std.proofs.lemmas.Result.{err_from_is_err_and}
use Rattle.walk_job_parts.proofs.Extends.{extend_out}
use Rattle.walk_job_parts.proofs.extend.Goals as goal

pub returns-in_err-z : goal.returns-in_err-z
returns-in_err-z c =
    let p = err_from_is_err_and c.from_residual.result c.from_residual.ensures.1 in
    rw (p.1, p.2) (extend_out c.args.w c.args.m c.args.xs.now _ _ _ _ c.in_err-z.field-0.0 _ c.in_err-z.ensures)
