-- `image_fields::count` meets its contract. Assumes nothing.
use Rattle.spec_rules.specs.Image.{count_at_of}
use Rattle.image_fields.proofs.count.Goals as goal

pub returns : goal.returns
unfolding count_at_of
returns c = c.word.ensures
