-- `stored_records::first_wrong_output` meets its contract. Assumes nothing.
use Rattle.std.proofs.Common.{sym, ◌∙◌, arith}
use Rattle.spec_tests.specs.Options.{first_some, first_none}
use Rattle.spec_tests.specs.Laws.{or_hit, or_skip, lt_yes, lt_no, begins, passed, found, ended}
use Rattle.stored_records.proofs.first_wrong_output.Goals as goal

pub loop-i-init : goal.loop-i-init
loop-i-init c = λ earlier m. begins _ _

pub returns-then-not_own : goal.returns-then-not_own
returns-then-not_own c = (
  λ earlier m. sym (first_some _ _ _ (omega arith) (found _ _ _ (omega arith) (c.loop-i.invariant earlier m) (sym (or_hit _ (sym (c.not_own.ensures earlier m) ∙ c.if-not_own.true))))),
  omega arith,
)

pub returns-then-x-least : goal.returns-then-x-least
returns-then-x-least c = (
  λ earlier m.
      sym
      (first_some _ _ _ (omega arith)
      (found _ _ _ (omega arith) (c.loop-i.invariant earlier m) (sym (or_skip (sym (c.not_own.ensures earlier m) ∙ c.if-not_own.false) (sym (lt_yes _ _ c.if-x-least.true)))))),
  omega arith,
)

pub loop-i-preserved : goal.loop-i-preserved
loop-i-preserved c = λ earlier m. c.loop-i.invariant earlier m ∙ passed _ _ _ (omega arith) (sym (or_skip (sym (c.not_own.ensures earlier m) ∙ c.if-not_own.false) (sym (lt_no _ _ c.if-x-least.false))))

pub returns : goal.returns
returns c = (λ earlier m. sym (first_none _ _ (ended _ _ _ (omega arith) (omega arith) (c.loop-i.invariant earlier m))), tt)
