-- `phase_parts::push` meets its contract. Assumes nothing.
use Rattle.std.specs.Prelude.{Ok, Err}
use Rattle.phase_parts.proofs.Laws.{pushed_ran}
use Rattle.phase_parts.proofs.push.Goals as goal

pub returns-in-Ok : goal.returns-in-Ok
returns-in-Ok c =
    let pre = c.requires in
    pushed_ran _ _ _ _ _ pre.0 pre.1 pre.2 pre.3 pre.4 c.push_record.auto.net (Ok tt) c.in-Ok.ensures

pub returns-in-Err : goal.returns-in-Err
returns-in-Err c =
    let pre = c.requires in
    pushed_ran _ _ _ _ _ pre.0 pre.1 pre.2 pre.3 pre.4 c.push_record.auto.net (Err c.in-Err.field-0) c.in-Err.ensures
