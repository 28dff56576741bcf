-- `stored_check::first_left` meets its contract. Assumes nothing.
use Rattle.std.proofs.Common.{sym, ◌∙◌, arith}
use Rattle.spec_tests.specs.Options.{first_some, first_none}
use Rattle.spec_tests.specs.Laws.{begins, passed, found, ended}
use Rattle.stored_check.proofs.first_left.Goals as goal

pub loop-n-init : goal.loop-n-init
loop-n-init c = begins _ _

pub returns-then-is_left : goal.returns-then-is_left
returns-then-is_left c = sym (first_some _ _ _ (omega arith) (found _ _ _ (omega arith) c.loop-n.invariant (sym c.is_left.ensures ∙ c.if-is_left.true)))

pub loop-n-preserved : goal.loop-n-preserved
loop-n-preserved c = c.loop-n.invariant ∙ passed _ _ _ (omega arith) (sym c.is_left.ensures ∙ c.if-is_left.false)

pub returns : goal.returns
returns c = sym (first_none _ _ (ended _ _ _ (omega arith) (omega arith) c.loop-n.invariant))
