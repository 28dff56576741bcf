-- `lower::lower_accepted` meets its contract. Assumes nothing.
use native.Mathlib.Omega.{arith}
use Rattle.lower.proofs.Ends.{ended_way}
use Rattle.lower.proofs.lower_accepted.Goals as goal

pub returns : goal.returns
returns c =
    let a = c.args in
    let p = c.requires in
    let x = c.prepare in
    let y = c.phases-r in
    ended_way a.image.now a.n _ x.new.net x.new.scr y.new.net y.new.scr _ _ y.result (omega (arith, p.sized)) (omega (arith, p.long)) x.ensures y.ensures
    c.clear_refused.ensures c.clear.ensures
