-- `expr_ranges::load_range` meets its contract. Assumes nothing.
use Rattle.expr_ranges.specs.Table.{range_in}
use Rattle.expr_ranges.proofs.load_range.Goals as goal

pub returns : goal.returns
unfolding range_in
returns c = rw (c.both_halves.ensures, c.both_halves-2.ensures)
