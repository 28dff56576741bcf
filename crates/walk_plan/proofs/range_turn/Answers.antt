-- `walk_plan::range_turn` meets its contract. Assumes nothing.
use Rattle.walk_plan.specs.Fits.{asked_range}
use Rattle.walk_plan.proofs.range_turn.Goals as goal

pub kind_range_turn-requires : goal.kind_range_turn-requires
kind_range_turn-requires c =
    let a = c.args in
    let pre = c.requires in
    rw c.expression_at-x.ensures.fields (asked_range a.image.now pre.0 a.e pre.1 a.lsb a.w pre.2, pre.3)

pub returns : goal.returns
returns c = rw c.expression_at-x.ensures.fields at c.kind_range_turn.ensures
