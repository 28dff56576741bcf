-- `walk_job_parts::task_width` meets its contract. Assumes nothing.
use native.Mathlib.Omega.{arith}
use Rattle.walk_job_parts.proofs.task_width.Goals as goal

pub overflow_sub-k : goal.overflow_sub-k
overflow_sub-k c = let f = rw c.in-Constant.is at c.requires in omega (arith, f.0)

pub returns-in-Constant : goal.returns-in-Constant
returns-in-Constant c = rw c.in-Constant.is c.min.ensures
