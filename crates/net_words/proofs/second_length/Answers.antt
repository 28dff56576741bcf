-- `net_words::second_length` meets its contract. Assumes nothing.
use Prim.Native.Nat.{ℕ}
use mathlib.Core.Path.{refl, sym, ap, ◌∙◌}
use native.Mathlib.Omega.{arith}
use lib.ListN.{drop}
use Rattle.spec_tests.specs.Laws.{eq_yes, eq_no, pick_hit, pick_skip}
use Rattle.spec_rules.specs.NetlistImage.{port_length}
use Rattle.net_words.specs.Lengths.{second_length}
use Rattle.net_words.proofs.second_length.Goals as goal

pub returns-then-word_at-eq2 : goal.returns-then-word_at-eq2
unfolding second_length
returns-then-word_at-eq2 c = (pick_hit _ (eq_yes _ _ (sym c.word_at.ensures ∙ c.if-word_at-eq2.true)) (c.port_length-then-word_at-eq2.ensures.0 ∙ ap port_length (c.part.ensures ∙ ap (λ (n : ℕ). drop n c.args.p.now) c.port_length.ensures.0)), c.port_length-then-word_at-eq2.ensures.1)

pub returns-else-word_at-eq2 : goal.returns-else-word_at-eq2
unfolding second_length
returns-else-word_at-eq2 c = (pick_skip _ (eq_no _ _ (λ e. c.if-word_at-eq2.false (c.word_at.ensures ∙ e))) refl, omega arith)
