-- `walk_operands::cut` meets its contract. Assumes nothing.
use Rattle.walk_operands.proofs.Ways.{cut_none, cut_some}
use Rattle.walk_operands.proofs.cut.Goals as goal

pub returns-then-narrow-eq0 : goal.returns-then-narrow-eq0
returns-then-narrow-eq0 c = cut_none _ _ c.if-narrow-eq0.true

pub returns-else-narrow-eq0 : goal.returns-else-narrow-eq0
returns-else-narrow-eq0 c = cut_some _ _ c.if-narrow-eq0.false
