-- `walk_left::whole_left` meets its contract. Assumes nothing.
use native.Mathlib.Omega.{arith}
use Rattle.walk_plan.specs.Fits.{whole_short}
use Rattle.walk_left.specs.Left.{whole_rest}
use Rattle.walk_left.proofs.Lefts.{left_ends, turn_there}
use Rattle.walk_left.proofs.whole_left.Goals as goal

pub returns-then-k-eq-END : goal.returns-then-k-eq-END
returns-then-k-eq-END c =
    let a = c.args in
    let pre = c.requires in
    left_ends a.image.now a.scr.now a.k (whole_rest a.image.now a.e) 0 (whole_short a.image.now pre.1 a.e pre.2 a.k (omega (arith, c.if-k-eq-END.true)))

pub left_by-requires : goal.left_by-requires
left_by-requires c =
    let a = c.args in
    let pre = c.requires in
    (pre.0, turn_there a.image.now (whole_rest a.image.now a.e) a.k 0 c.whole_turn.result c.whole_turn.ensures, omega (arith, c.if-k-eq-END.false))

pub returns : goal.returns
returns c =
    let a = c.args in
    let pre = c.requires in
    c.left_by.ensures (whole_rest a.image.now a.e) 0 (whole_short a.image.now pre.1 a.e pre.2 4294967295 (omega arith)) c.whole_turn.ensures
