-- `listing_records::lines_of` meets its contract. Assumes nothing.
use Rattle.listing_records.specs.Split.{lines_more, lines_end}
use Rattle.listing_records.proofs.lines_of.Goals as goal

pub loop-i-preserved : goal.loop-i-preserved
loop-i-preserved c =
    lines_more _ _ c.loop-i-test.true c.record_end-end.ensures c.stretch.ensures c.loop-i.invariant c.record_line-to.ensures

pub returns : goal.returns
returns c = lines_end _ _ c.loop-i-test.false c.loop-i.invariant
