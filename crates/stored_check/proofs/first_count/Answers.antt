-- `stored_check::first_count` meets its contract. Assumes nothing.
use Rattle.std.proofs.Common.{sym, ◌∙◌, arith}
use Rattle.spec_tests.specs.Options.{first_some, first_none}
use Rattle.spec_tests.specs.Laws.{begins, passed, found, ended}
use Rattle.stored_check.specs.Stages.{count_differs, count_agrees}
use Rattle.stored_check.proofs.first_count.Goals as goal

pub loop-t-init : goal.loop-t-init
loop-t-init c = begins _ _

pub returns-then-net-t : goal.returns-then-net-t
returns-then-net-t c = sym (first_some _ _ _ (omega arith) (found _ _ _ (omega arith) c.loop-t.invariant (count_differs _ _ _ c.requires.1 (omega arith) c.if-net-t.true)))

pub loop-t-preserved : goal.loop-t-preserved
loop-t-preserved c = c.loop-t.invariant ∙ passed _ _ _ (omega arith) (count_agrees _ _ _ c.requires.1 (omega arith) c.if-net-t.false)

pub returns : goal.returns
returns c = sym (first_none _ _ (ended _ _ _ (omega arith) (omega arith) c.loop-t.invariant))
