-- `image_fields::first_word` meets its contract. Assumes nothing.
use Rattle.spec_rules.specs.Image.{word_at}
use Rattle.image_fields.proofs.first_word.Goals as goal

pub returns : goal.returns
unfolding word_at
returns c = c.from_le_bytes.ensures
