-- `scratch_tables::marked` meets its contract: the word at the place in the column of marks. Assumes nothing.
use Rattle.scratch_tables.proofs.Ways.{marked_way}
use Rattle.scratch_tables.proofs.marked.Goals as goal

pub returns : goal.returns
returns c =
    let at = c.signal_place in
    marked_way c.args.image.now c.args.scr.now c.args.p c.args.b at.result c.requires.0 c.requires.1 c.requires.2 at.ensures
