-- `scratch_tables::copy_range` meets its contract: the words of the range. Assumes nothing.
use Rattle.scratch_tables.proofs.Ways.{copy_range_way}
use Rattle.scratch_tables.proofs.copy_range.Goals as goal

pub returns : goal.returns
returns c =
    let a = c.args in
    let at = c.expr_place-at in
    let copied = c.copy_nets in
    copy_range_way a.image.now a.scr.now at.result a.lsb a.n a.out.now copied.new.out a.to copied.ensures a.e c.requires.1 c.requires.2 at.ensures
