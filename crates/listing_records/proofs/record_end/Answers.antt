-- `listing_records::record_end` meets its contract. Assumes nothing.
use Rattle.listing_records.specs.Split.{ends_inside}
use Rattle.listing_records.proofs.record_end.Goals as goal

pub returns-then-n-rest : goal.returns-then-n-rest
returns-then-n-rest c = ends_inside _ _ c.requires c.part-rest.ensures c.record_length-n.ensures c.if-n-rest.true
