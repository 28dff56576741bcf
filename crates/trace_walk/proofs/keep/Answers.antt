-- `trace_walk::keep` meets its contract. Assumes nothing.
use mathlib.Core.Path.{refl, sym, ◌∙◌}
use Rattle.spec_tests.specs.Laws.{pick_hit, pick_skip, eq_yes, eq_no}
use Rattle.trace_walk.proofs.keep.Goals as goal

pub returns-then-word_at-sort : goal.returns-then-word_at-sort
returns-then-word_at-sort c = (pick_skip _ (eq_no _ _ (λ e. c.if-word_at-sort.true (c.word_at.ensures ∙ e))) refl, pick_skip _ (eq_no _ _ (λ e. c.if-word_at-sort.true (c.word_at.ensures ∙ e))) refl)

pub returns : goal.returns
returns c = (pick_hit _ (eq_yes _ _ (sym c.word_at.ensures ∙ c.if-word_at-sort.false)) refl, pick_hit _ (eq_yes _ _ (sym c.word_at.ensures ∙ c.if-word_at-sort.false)) refl)
