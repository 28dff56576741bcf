-- `stored_marks::mark_one` meets its contract. Assumes nothing.
use Rattle.stored_marks.specs.Keep.{mark_none, mark_set}
use Rattle.stored_marks.proofs.mark_one.Goals as goal

pub returns-then-at-marks : goal.returns-then-at-marks
returns-then-at-marks c = λ y h. mark_set c.args.marks.now c.args.x y c.if-at-marks.true

pub returns-else-at-marks : goal.returns-else-at-marks
returns-else-at-marks c = λ y h. mark_none c.args.marks.now c.args.x y c.if-at-marks.false h
