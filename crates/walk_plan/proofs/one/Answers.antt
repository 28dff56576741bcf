-- `walk_plan::one` meets its contract. Assumes nothing.
use Rattle.std.specs.Prelude.{Some}
use Rattle.walk_plan.specs.Kinds.{one_ends}
use Rattle.walk_plan.proofs.one.Goals as goal

pub returns-then-k-eq0 : goal.returns-then-k-eq0
returns-then-k-eq0 c = λ s. rw c.if-k-eq0.true

pub returns : goal.returns
returns c = λ s. one_ends (Some c.args.need) c.args.k c.if-k-eq0.false
