-- `listing_text::put_refusal` meets its contract. Assumes nothing.
use Rattle.listing_text.specs.Text.{wrote_more}
use Rattle.listing_text.proofs.put_refusal.Goals as goal

pub returns : goal.returns
returns c =
    wrote_more c.put-p.ensures (wrote_more c.put_number-q.ensures (wrote_more c.put_number-r.ensures (wrote_more c.put_number-t.ensures c.put_byte.ensures)))
