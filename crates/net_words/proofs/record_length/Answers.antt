-- `net_words::record_length` meets its contract. Assumes nothing.
use mathlib.Core.Path.{sym, ap, ◌∙◌}
use native.Mathlib.Omega.{arith}
use Rattle.spec_tests.specs.Rules.{pick, ◌≡?◌}
use Rattle.net_words.specs.Lengths.{length_by, record_length_law, length_other}
use Rattle.net_words.proofs.record_length.Goals as goal

pub returns-in-0 : goal.returns-in-0
unfolding length_by pick ◌≡?◌
returns-in-0 c = sym (record_length_law c.args.l.now ∙ ap (length_by c.args.l.now) (sym c.word_at.ensures ∙ c.in-0.is) ∙ omega arith)

pub returns-in-1 : goal.returns-in-1
unfolding length_by pick ◌≡?◌
returns-in-1 c = sym (record_length_law c.args.l.now ∙ ap (length_by c.args.l.now) (sym c.word_at.ensures ∙ c.in-1.is))

pub returns-in-2 : goal.returns-in-2
unfolding length_by pick ◌≡?◌
returns-in-2 c = c.memory_length.ensures.0 ∙ sym (record_length_law c.args.l.now ∙ ap (length_by c.args.l.now) (sym c.word_at.ensures ∙ c.in-2.is))

pub returns-in-3 : goal.returns-in-3
unfolding length_by pick ◌≡?◌
returns-in-3 c = sym (record_length_law c.args.l.now ∙ ap (length_by c.args.l.now) (sym c.word_at.ensures ∙ c.in-3.is) ∙ omega arith)

pub returns-in-4 : goal.returns-in-4
unfolding length_by pick ◌≡?◌
returns-in-4 c = sym (record_length_law c.args.l.now ∙ ap (length_by c.args.l.now) (sym c.word_at.ensures ∙ c.in-4.is) ∙ omega arith)

pub returns-in_default : goal.returns-in_default
returns-in_default c = length_other c.args.l.now _ (omega arith) ∙ ap (length_by c.args.l.now) c.word_at.ensures ∙ sym (record_length_law c.args.l.now)
