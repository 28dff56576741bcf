-- `walk_left::range_left` meets its contract. Assumes nothing.
use native.Mathlib.Omega.{arith}
use Rattle.walk_plan.specs.Plan.{range_rest}
use Rattle.walk_plan.specs.Fits.{range_short}
use Rattle.walk_left.proofs.Lefts.{left_ends, turn_there}
use Rattle.walk_left.proofs.range_left.Goals as goal

pub returns-then-k-eq-END : goal.returns-then-k-eq-END
returns-then-k-eq-END c =
    let a = c.args in
    let pre = c.requires in
    left_ends a.image.now a.scr.now a.k (range_rest a.image.now a.e a.lsb a.w) a.at
    (range_short a.image.now pre.1 a.e pre.2 a.lsb a.w a.k a.at pre.3 (omega (arith, c.if-k-eq-END.true)))

pub left_by-requires : goal.left_by-requires
left_by-requires c =
    let a = c.args in
    let pre = c.requires in
    (pre.0, turn_there a.image.now (range_rest a.image.now a.e a.lsb a.w) a.k a.at c.range_turn.result c.range_turn.ensures, omega (arith, c.if-k-eq-END.false))

pub returns : goal.returns
returns c =
    let a = c.args in
    let pre = c.requires in
    c.left_by.ensures (range_rest a.image.now a.e a.lsb a.w) a.at
    (range_short a.image.now pre.1 a.e pre.2 a.lsb a.w 4294967295 0 pre.3 (omega arith)) c.range_turn.ensures
