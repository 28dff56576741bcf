-- `image_fields::list_word` meets its contract. Assumes nothing.
use Rattle.spec_rules.specs.Image.{list_word}
use Rattle.image_fields.proofs.list_word.Goals as goal

pub returns : goal.returns
unfolding list_word
returns c = c.record_field.ensures
