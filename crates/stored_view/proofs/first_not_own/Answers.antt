-- `stored_view::first_not_own` meets its contract. Assumes nothing.
use Rattle.std.proofs.Common.{sym, ◌∙◌, arith}
use Rattle.spec_tests.specs.Options.{first_some, first_none}
use Rattle.spec_tests.specs.Laws.{begins, passed, found, ended}
use Rattle.stored_view.proofs.first_not_own.Goals as goal

pub loop-i-init : goal.loop-i-init
loop-i-init c = λ earlier m. begins _ _

pub returns-then-not_own : goal.returns-then-not_own
returns-then-not_own c = (λ earlier m. sym (first_some _ _ _ (omega arith) (found _ _ _ (omega arith) (c.loop-i.invariant earlier m) (sym (c.not_own.ensures earlier m) ∙ c.if-not_own.true))), omega arith)

pub loop-i-preserved : goal.loop-i-preserved
loop-i-preserved c = λ earlier m. c.loop-i.invariant earlier m ∙ passed _ _ _ (omega arith) (sym (c.not_own.ensures earlier m) ∙ c.if-not_own.false)

pub returns : goal.returns
returns c = (λ earlier m. sym (first_none _ _ (ended _ _ _ (omega arith) (omega arith) (c.loop-i.invariant earlier m))), tt)
