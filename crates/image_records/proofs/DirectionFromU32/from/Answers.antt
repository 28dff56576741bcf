-- `image_records::DirectionFromU32::from` meets its contract. Assumes nothing.
use Rattle.std.proofs.Common.{rules, arith}
use Rattle.std.proofs.lemmas.Grind.{common_steps}
use Rattle.spec_tests.specs.Rules.{pick, ◌≡?◌}
use Rattle.spec_rules.specs.Image.{direction}
use Rattle.image_records.specs.Others.{direction_means}
use Rattle.image_records.proofs.DirectionFromU32.from.Goals as goal

pub returns-in-1 : goal.returns-in-1
unfolding direction_means direction pick ◌≡?◌
returns-in-1 c = search rules

pub returns-in-2 : goal.returns-in-2
unfolding direction_means direction pick ◌≡?◌
returns-in-2 c = search rules

pub returns-in_default : goal.returns-in_default
unfolding direction_means direction pick ◌≡?◌
returns-in_default c = grind (arith, common_steps)
