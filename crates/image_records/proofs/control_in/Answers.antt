-- `image_records::control_in` meets its contract. Assumes nothing.
use Rattle.spec_tests.specs.Rules.{◌≡?◌}
use Rattle.spec_rules.specs.Image.{control_of}
use Rattle.image_records.specs.Others.{control_means, control_in}
use Rattle.image_records.proofs.control_in.Goals as goal

pub returns : goal.returns
unfolding control_means control_in control_of ◌≡?◌
returns c = cc
