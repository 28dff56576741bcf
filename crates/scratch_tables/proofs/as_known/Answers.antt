-- `scratch_tables::as_known` meets its contract: a word as a net that may be absent. Assumes nothing.
use Rattle.scratch_tables.proofs.Ways.{known_is}
use Rattle.scratch_tables.proofs.as_known.Goals as goal

pub returns : goal.returns
returns c = known_is c.args.x c.checked_sub.result c.checked_sub.ensures
