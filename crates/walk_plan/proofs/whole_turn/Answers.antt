-- `walk_plan::whole_turn` meets its contract. Assumes nothing.
use Rattle.law_accepted.specs.Formed.{readable}
use Rattle.walk_plan.specs.Kinds.{whole_read}
use Rattle.walk_plan.specs.Fits.{asked}
use Rattle.walk_plan.proofs.whole_turn.Goals as goal

pub kind_need-requires : goal.kind_need-requires
kind_need-requires c =
    let a = c.args in
    let pre = c.requires in
    rw c.expression_at-width.ensures.fields (asked a.image.now pre.0 a.e pre.1)

pub returns : goal.returns
returns c =
    let a = c.args in
    let pre = c.requires in
    rw (whole_read a.image.now (readable a.image.now pre.0) a.e pre.1 _ c.expression_at-width.ensures) at c.kind_need.ensures
