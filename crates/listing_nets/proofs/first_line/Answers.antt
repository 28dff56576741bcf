-- `listing_nets::first_line` meets its contract. Assumes nothing.
use Rattle.listing_nets.specs.Pieces.{first_line_wrote}
use Rattle.listing_text.specs.Text.{wrote_more}
use Rattle.listing_nets.proofs.first_line.Goals as goal

pub returns : goal.returns
returns c =
    first_line_wrote _ c.word_at.ensures c.word_at-2.ensures
    (wrote_more c.put-p.ensures (wrote_more c.put_number-q.ensures (wrote_more c.put_word-r.ensures (wrote_more c.put_number-t.ensures c.put_byte.ensures))))
