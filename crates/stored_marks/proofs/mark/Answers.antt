-- `stored_marks::mark` meets its contract. Assumes nothing.
use Rattle.std.proofs.Common.{arith, get_or}
use Rattle.spec_tests.specs.Rules.{◌≢?◌}
use Rattle.stored_marks.specs.Keep.{mark_start, mark_step}
use Rattle.stored_marks.proofs.mark.Goals as goal

pub loop-x-init : goal.loop-x-init
loop-x-init c = λ x h. mark_start (get_or c.args.marks.now x 0 ≢? 0) x c.args.own.now

pub loop-x-preserved : goal.loop-x-preserved
loop-x-preserved c = λ x h. mark_step (get_or c.args.marks.now x 0 ≢? 0) _ _ x c.loop-x.x-index c.args.own.now (omega arith) (c.loop-x.invariant x h) (c.mark_one.ensures x (omega arith))
