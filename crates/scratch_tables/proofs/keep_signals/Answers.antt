-- `scratch_tables::keep_signals` meets its contract: the filled part is put back. Assumes nothing.
use Rattle.scratch_tables.proofs.Ways.{keep_signals_way}
use Rattle.scratch_tables.proofs.keep_signals.Goals as goal

pub returns : goal.returns
returns c =
    let a = c.args in
    let at = c.signal_place-at in
    let f = c.fill in
    keep_signals_way a.image.now a.scr.now a.nets.now f.new.part c.requires.0 c.requires.3 a.p at.result c.requires.1 c.requires.2 at.ensures f.ensures
