-- `scratch_tables::keep_signal` meets its contract: one store at the place. Assumes nothing.
use Rattle.scratch_tables.proofs.Ways.{keep_way}
use Rattle.scratch_tables.proofs.keep_signal.Goals as goal

pub returns : goal.returns
returns c =
    keep_way c.args.image.now c.args.scr.now c.args.p c.args.b c.signal_place-at.result c.requires.0 c.requires.1 c.requires.2 c.signal_place-at.ensures c.args.x c.requires.3
