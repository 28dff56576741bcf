-- `compare_parts::build` meets its contract. Assumes nothing.
use borrow.Author.Rules.{rules}
use Rattle.compare_parts.proofs.Laws.{held_empty, nots_empty}
use Rattle.compare_parts.proofs.build.Goals as goal

pub run-requires : goal.run-requires
run-requires c =
    (held_empty _ _ _ _ _ c.if-idx-n.true c.start.ensures c.clear.ensures, nots_empty _ _ _ c.start.ensures, search rules, search rules)
