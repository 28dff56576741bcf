-- `scratch_tables::keep_whole` meets its contract: the filled part is put back, then the flag is stored. Assumes nothing.
use Rattle.scratch_tables.proofs.Ways.{keep_whole_way}
use Rattle.scratch_tables.proofs.keep_whole.Goals as goal

pub returns : goal.returns
returns c =
    let a = c.args in
    let at = c.expr_place-at in
    let f = c.fill in
    keep_whole_way a.image.now a.scr.now a.nets.now f.new.part c.requires.0 c.requires.3 a.e at.result c.requires.1 c.requires.2 at.ensures f.ensures
