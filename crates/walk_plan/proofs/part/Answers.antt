-- `walk_plan::part` meets its contract. Assumes nothing.
use native.Mathlib.Omega.{arith}
use Rattle.walk_plan.specs.Kinds.{part_next, parts_end}
use Rattle.walk_plan.proofs.part.Goals as goal

pub returns-then-k-count : goal.returns-then-k-count
returns-then-k-count c = λ s.
    let a = c.args in
    (part_next a.image.now a.start a.count a.k _ c.if-k-count.true c.list_word-part.ensures, omega arith)

pub returns : goal.returns
returns c = λ s.
    let a = c.args in
    parts_end a.image.now a.start a.count a.k c.if-k-count.false
