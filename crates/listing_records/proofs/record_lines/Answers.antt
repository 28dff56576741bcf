-- `listing_records::record_lines` meets its contract. Assumes nothing.
use Rattle.listing_records.specs.Split.{records_wrote}
use Rattle.listing_records.proofs.record_lines.Goals as goal

pub returns : goal.returns
returns c =
    records_wrote _ _ c.word_at-words.ensures c.word_at-start.ensures c.stretch.ensures c.lines_of.ensures
