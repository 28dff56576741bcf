-- `image_records::kind` meets its contract. Assumes nothing.
use Rattle.std.proofs.Common.{arith}
use Rattle.std.proofs.lemmas.Grind.{common_steps}
use Rattle.spec_tests.specs.Rules.{pick, ◌≡?◌}
use Rattle.image_records.specs.Expr.{kind_of}
use Rattle.image_records.proofs.kind.Goals as goal

pub returns-in-0 : goal.returns-in-0
unfolding kind_of pick ◌≡?◌
returns-in-0 c = rw c.in-0.is

pub returns-in-1 : goal.returns-in-1
unfolding kind_of pick ◌≡?◌
returns-in-1 c = rw c.in-1.is

pub returns-in-2 : goal.returns-in-2
unfolding kind_of pick ◌≡?◌
returns-in-2 c = rw (c.in-2.is, c.into.ensures)

pub returns-in-3 : goal.returns-in-3
unfolding kind_of pick ◌≡?◌
returns-in-3 c = rw (c.in-3.is, c.into-in-3.ensures)

pub returns-in-4 : goal.returns-in-4
unfolding kind_of pick ◌≡?◌
returns-in-4 c = rw c.in-4.is

pub returns-in-5 : goal.returns-in-5
unfolding kind_of pick ◌≡?◌
returns-in-5 c = rw c.in-5.is

pub returns-in_default : goal.returns-in_default
unfolding kind_of pick ◌≡?◌
returns-in_default c = grind (arith, common_steps)
