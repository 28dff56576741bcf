-- `walk_perform::perform` meets its contract. Assumes nothing.
use native.Mathlib.Omega.{arith}
use Rattle.std.proofs.lemmas.Result.{err_from_is_err_and}
use Rattle.walk_perform.proofs.Jobs.{made_within, fits_more, fits_whole, fits_narrowed, job_whole, job_out, job_narrowed}
use Rattle.walk_perform.proofs.perform.Goals as goal

pub perform_task-requires : goal.perform_task-requires
perform_task-requires c =
    (c.requires.0, fits_whole _ c.args.w c.args.job c.requires.1 c.if-narrow-eq0.true, c.requires.1.most, c.requires.2, c.requires.3, c.requires.4)

pub returns-then-narrow-eq0 : goal.returns-then-narrow-eq0
returns-then-narrow-eq0 c =
    job_whole _ c.args.w c.args.job c.requires.1 _ _ _ _ _ _ _ _ _ c.if-narrow-eq0.true c.perform_task.ensures

pub perform_task-requires-2 : goal.perform_task-requires-2
perform_task-requires-2 c =
    (c.requires.0, fits_narrowed _ c.args.w c.args.job c.requires.1 c.if-narrow-eq0.false, c.requires.1.most, c.requires.2, c.requires.3, c.requires.4)

pub task_width-m-requires : goal.task_width-m-requires
task_width-m-requires c =
    fits_more _ 1024 _ c.args.job.task c.requires.2 (fits_narrowed _ c.args.w c.args.job c.requires.1 c.if-narrow-eq0.false)

pub extend-requires : goal.extend-requires
extend-requires c = (c.perform_task-2.ensures.held, rw c.task_width-m.ensures (made_within c.args.job.narrow c.args.w c.args.job.task c.requires.1.narrow), omega (arith, c.perform_task-2.auto.xs, c.requires.1.most, c.requires.2))

pub returns : goal.returns
returns c =
    job_narrowed _ c.args.w c.args.job c.requires.1 _ _ _ _ _ _ _ _ _ _ _ _ c.if-narrow-eq0.false c.in_ok-perform_task.ensures (rw c.task_width-m.ensures at c.extend.ensures)

pub returns-in_err-perform_task : goal.returns-in_err-perform_task
returns-in_err-perform_task c =
    let p = err_from_is_err_and c.from_residual.result c.from_residual.ensures.1 in
    rw (p.1, p.2) (job_out _ c.args.w c.args.job c.requires.1 _ _ _ _ _ c.in_err-perform_task.field-0.0 _ _ _ _ c.if-narrow-eq0.false c.in_err-perform_task.ensures)
