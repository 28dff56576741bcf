-- `compare_parts::nets_step` meets its contract. Assumes nothing.
use Rattle.std.proofs.lemmas.Result.{err_from_is_err_and}
use Rattle.compare_parts.proofs.Laws.{runs, fills, keeps_output, keeps_comparison, keeps_arithmetic, full_steps}
use Rattle.compare_parts.proofs.nets_step.Goals as goal

pub returns-then-op-gt14 : goal.returns-then-op-gt14
returns-then-op-gt14 c =
    let made = c.add_output_port.ensures in
    runs _ (keeps_output _ _ _ c.requires.1) (made.held _ c.requires.0) made.says

pub returns-then-op-gt9 : goal.returns-then-op-gt9
returns-then-op-gt9 c = let made = c.comparison.ensures in runs _ (keeps_comparison _ _ _ _ c.requires.1) made.held made.says

pub returns : goal.returns
returns c = fills _ (keeps_arithmetic _ _ _ _ _ c.requires.1) c.arithmetic.ensures c.in_ok-arithmetic.was

pub returns-in_err-arithmetic : goal.returns-in_err-arithmetic
returns-in_err-arithmetic c =
    let p = err_from_is_err_and c.from_residual.result c.from_residual.ensures.1 in
    rw p.1 (full_steps p.0 c.arithmetic.ensures.held)
