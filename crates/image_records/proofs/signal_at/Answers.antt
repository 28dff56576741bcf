-- `image_records::signal_at` meets its contract. Assumes nothing.
use Rattle.spec_rules.specs.Image.{field, signal_width, signal_at}
use Rattle.image_fields.specs.Fields.{field_in}
use Rattle.image_records.specs.Others.{signal_means}
use Rattle.image_records.proofs.signal_at.Goals as goal

pub returns : goal.returns
unfolding signal_means signal_at signal_width field field_in
returns c = cc
