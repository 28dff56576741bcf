-- `listing_records::cell_line` meets its contract. Assumes nothing.
use Rattle.listing_records.specs.Pieces.{cell_wrote}
use Rattle.listing_text.specs.Text.{wrote_more}
use Rattle.listing_records.proofs.cell_line.Goals as goal

pub returns : goal.returns
returns c =
    cell_wrote _ c.word_at.ensures c.part.ensures (wrote_more (rw c.record_word.ensures at c.put-p.ensures) (wrote_more c.put_numbers-q.ensures c.put_byte.ensures))
