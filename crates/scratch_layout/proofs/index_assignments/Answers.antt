-- `scratch_layout::index_assignments` meets its contract: invariant: the drivers by the assignments from a on stand. Assumes nothing.
use Rattle.scratch_view.specs.View.{limit_of}
use Rattle.scratch_layout.proofs.Ways.{index_begin, index_step, index_end}
use Rattle.scratch_layout.proofs.index_assignments.Goals as goal

pub loop-a-init : goal.loop-a-init
loop-a-init c =
    index_begin c.args.image.now (limit_of c.args.scr.now) c.args.scr.now c.count-count.result c.count-count.ensures c.requires.0 c.requires.1

pub loop-a-preserved : goal.loop-a-preserved
loop-a-preserved c =
    let l = c.loop-a in
    index_step c.args.image.now (limit_of c.args.scr.now) c.args.scr.now l.scr c.index_assignment.new.scr l.a c.loop-a-test.true l.invariant
    c.index_assignment.ensures

pub returns : goal.returns
returns c =
    let l = c.loop-a in
    index_end c.args.image.now (limit_of c.args.scr.now) c.args.scr.now l.scr l.a l.invariant c.loop-a-test.false
