-- `op_shifts::shift_stages` meets its contract. Assumes nothing.
use mathlib.Core.Path.{ap, ◌∙◌}
use Prim.Native.Nat.{ℕ, ◌*◌, min}
use Rattle.std.proofs.lemmas.Result.{err_from_is_err_and}
use Rattle.op_shifts.proofs.Laws.{staging_more, staging_out, staging_end}
use Rattle.op_shifts.proofs.shift_stages.Goals as goal

pub returns-in_err-shift_stage : goal.returns-in_err-shift_stage
returns-in_err-shift_stage c =
    let p = err_from_is_err_and c.from_residual.result c.from_residual.ensures.1 in
    rw (p.1, p.2) (staging_out _ _ _ _ _ _ _ _ _ _ _ _ c.loop-select.invariant _ _ _ _ _ c.loop-select-test.true c.in_err-shift_stage.ensures)

pub loop-select-preserved : goal.loop-select-preserved
loop-select-preserved c =
    staging_more _ _ _ _ _ _ _ _ _ _ _ _ c.loop-select.invariant _ _ _ _ c.loop-select-test.true c.shift_stage.auto.net c.shift_stage.auto.xs
    (c.min-distance.ensures ∙ ap (λ (w : ℕ). min (2 * c.loop-select.distance) w) c.shift_stage.auto.xs) c.in_ok-shift_stage.ensures

pub returns : goal.returns
returns c = staging_end _ _ _ _ _ _ _ _ _ _ _ _ c.loop-select.invariant c.loop-select-test.false
