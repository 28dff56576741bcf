-- `image_fields::offset` meets its contract. Assumes nothing.
use Rattle.spec_rules.specs.Image.{offset_at}
use Rattle.image_fields.proofs.offset.Goals as goal

pub returns : goal.returns
unfolding offset_at
returns c = c.word.ensures
