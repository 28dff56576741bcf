-- `scratch_tables::is_whole` meets its contract: the flag of the expression. Assumes nothing.
use Rattle.scratch_tables.proofs.Ways.{whole_way}
use Rattle.scratch_tables.proofs.is_whole.Goals as goal

pub returns : goal.returns
returns c =
    whole_way c.args.image.now c.args.scr.now c.args.e c.requires.0
