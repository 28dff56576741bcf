-- `listing_records::put_numbers` meets its contract. Assumes nothing.
use Rattle.listing_records.specs.Pieces.{numbers_more, numbers_end}
use Rattle.listing_records.proofs.put_numbers.Goals as goal

pub loop-word-preserved : goal.loop-word-preserved
loop-word-preserved c =
    numbers_more _ c.loop-word-test.true c.loop-word.invariant c.put_number-to.ensures

pub returns : goal.returns
returns c = numbers_end _ c.loop-word-test.false c.loop-word.invariant
