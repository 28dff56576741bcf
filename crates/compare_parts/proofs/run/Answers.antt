-- `compare_parts::run` meets its contract. Assumes nothing.
use borrow.Author.Rules.{rules}
use Rattle.compare_parts.proofs.run.Goals as goal

pub loop-at-preserved : goal.loop-at-preserved
loop-at-preserved c =
    let s = c.step in
    (s.ensures.held, s.ensures.nots _ c.in-Ok.is, search rules, search rules, search rules)
