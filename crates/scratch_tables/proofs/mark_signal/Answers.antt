-- `scratch_tables::mark_signal` meets its contract: one store at the place in the column of marks. Assumes nothing.
use Rattle.scratch_tables.proofs.Ways.{mark_way}
use Rattle.scratch_tables.proofs.mark_signal.Goals as goal

pub returns : goal.returns
returns c =
    mark_way c.args.image.now c.args.scr.now c.args.p c.args.b c.signal_place.result c.requires.0 c.requires.1 c.requires.2 c.signal_place.ensures
