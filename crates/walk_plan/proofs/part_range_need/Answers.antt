-- `walk_plan::part_range_need` meets its contract. Assumes nothing.
use Rattle.walk_plan.specs.Kinds.{part_yes, part_no}
use Rattle.walk_plan.proofs.part_range_need.Goals as goal

pub returns-then-low-high : goal.returns-then-low-high
returns-then-low-high c =
    let args = c.args in
    let a = args in part_yes a.lsb a.end a.at a.p a.v _ _ c.max-low.ensures c.min-high.ensures c.if-low-high.true

pub returns : goal.returns
returns c =
    let args = c.args in
    let a = args in part_no a.lsb a.end a.at a.p a.v _ _ c.max-low.ensures c.min-high.ensures c.if-low-high.false
