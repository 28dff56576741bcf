-- `stored_header::first_word` meets its contract. The loop's invariant: no header word below i is wrong. Assumes nothing.
use Rattle.std.proofs.Common.{sym, ap, ◌∙◌, arith}
use Rattle.spec_tests.specs.Options.{first_of, first_some, first_none}
use Rattle.spec_tests.specs.Laws.{begins, passed, found, ended}
use Rattle.stored_header.proofs.first_word.Goals as goal

pub loop-i-init : goal.loop-i-init
loop-i-init c = begins _ _

pub returns-then-wrong_word : goal.returns-then-wrong_word
returns-then-wrong_word c =
    sym (first_some _ _ _ (omega arith) (found _ _ _ (omega arith) c.loop-i.invariant (sym c.wrong_word.ensures ∙ c.if-wrong_word.true))) ∙ ap (first_of _) c.header_words-n.ensures

pub loop-i-preserved : goal.loop-i-preserved
loop-i-preserved c = c.loop-i.invariant ∙ passed _ _ _ (omega arith) (sym c.wrong_word.ensures ∙ c.if-wrong_word.false)

pub returns : goal.returns
returns c = sym (first_none _ _ (ended _ _ _ (omega arith) (omega arith) c.loop-i.invariant)) ∙ ap (first_of _) c.header_words-n.ensures
