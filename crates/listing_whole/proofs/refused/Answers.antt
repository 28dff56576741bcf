-- `listing_whole::refused` meets its contract. Assumes nothing.
use Rattle.listing_whole.specs.Whole.{refusal}
use Rattle.listing_text.specs.Text.{wrote_same}
use Rattle.listing_whole.proofs.refused.Goals as goal

pub returns : goal.returns
returns c = λ s ws. wrote_same (refusal _ _ _ s ws) c.put_refusal.ensures
