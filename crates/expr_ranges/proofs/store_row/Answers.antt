-- `expr_ranges::store_row` meets its contract. Assumes nothing.
use Rattle.expr_ranges.specs.Table.{put_row}
use Rattle.expr_ranges.proofs.store_row.Goals as goal

pub returns : goal.returns
unfolding put_row
returns c = rw (c.low_half.ensures, c.high_half.ensures, c.low_half-2.ensures, c.high_half-2.ensures)
