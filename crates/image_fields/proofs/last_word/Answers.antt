-- `image_fields::last_word` meets its contract. Assumes nothing.
use Rattle.spec_rules.specs.Image.{word_at}
use Rattle.image_fields.proofs.last_word.Goals as goal

pub returns : goal.returns
unfolding word_at
returns c = cc
