-- `listing_records::port_line` meets its contract. Assumes nothing.
use Rattle.listing_records.specs.Pieces.{port_wrote}
use Rattle.listing_text.specs.Text.{wrote_more}
use Rattle.listing_records.proofs.port_line.Goals as goal

pub returns : goal.returns
returns c =
    port_wrote _ _ c.word_at-signal.ensures c.name-name.ensures c.part.ensures (wrote_more c.put-p.ensures (wrote_more c.put_word-q.ensures (wrote_more c.put_numbers-t.ensures c.put_byte.ensures)))
