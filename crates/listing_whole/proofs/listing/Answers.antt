-- `listing_whole::listing` meets its contract. Assumes nothing.
use Rattle.listing_whole.specs.Whole.{listing_wrote}
use Rattle.listing_whole.proofs.listing.Goals as goal

pub returns : goal.returns
returns c =
    listing_wrote _ _ c.first_line-p.ensures c.net_lines-q.ensures c.record_lines.ensures
