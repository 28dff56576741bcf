-- `listing_nets::bit_suffix` meets its contract. Assumes nothing.
use Rattle.listing_nets.specs.Pieces.{suffix_none, suffix_number}
use Rattle.listing_text.specs.Text.{wrote_none, wrote_more, wrote_same}
use Rattle.listing_nets.proofs.bit_suffix.Goals as goal

pub returns-then-w-eq1 : goal.returns-then-w-eq1
returns-then-w-eq1 c = wrote_same (suffix_none _ _ c.if-w-eq1.true) (wrote_none _ _ c.requires)

pub returns : goal.returns
returns c =
    wrote_same (suffix_number _ _ c.if-w-eq1.false) (wrote_more c.put_byte-p.ensures (wrote_more c.decimal-q.ensures c.put_byte.ensures))
