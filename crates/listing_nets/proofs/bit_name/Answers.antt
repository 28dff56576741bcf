-- `listing_nets::bit_name` meets its contract. Assumes nothing.
use Rattle.std.proofs.Common.{List, ℕ, ◌∷◌, ◌++◌, ap, ◌∙◌, append_assoc}
use Rattle.listing_nets.specs.Pieces.{bit_name_law, bit_suffix}
use Rattle.listing_text.specs.Text.{wrote_more, wrote_same}
use Rattle.listing_nets.proofs.bit_name.Goals as goal

pub returns : goal.returns
returns c =
    wrote_same
    (ap (λ (l : List ℕ). 32 ∷ l) (bit_name_law (c.args.name.now ++ c.args.mark.now) c.args.w c.args.bit ∙ append_assoc c.args.name.now c.args.mark.now (bit_suffix c.args.w c.args.bit)))
    (wrote_more c.put_word-p.ensures (wrote_more c.put-q.ensures c.bit_suffix.ensures))
