-- `listing_nets::net_line` meets its contract. Assumes nothing.
use Rattle.listing_nets.specs.Pieces.{net_line_wrote}
use Rattle.listing_text.specs.Text.{wrote_more}
use Rattle.listing_nets.proofs.net_line.Goals as goal

pub returns : goal.returns
returns c =
    net_line_wrote _ _ _ c.node_word-k.ensures c.node_word-owner.ensures c.node_word-bit.ensures c.node_word-x.ensures c.node_word-y.ensures c.node_word-z.ensures
    (wrote_more c.decimal-p.ensures (wrote_more (rw c.kind_word.ensures at c.put_word-q.ensures) (wrote_more c.owned-r.ensures (wrote_more c.inputs-t.ensures c.put_byte.ensures))))
