-- `stored_marks::own` meets its contract. Assumes nothing.
use mathlib.Core.Path.{sym, ap, ◌∙◌}
use mathlib.Core.List.{List}
use Prim.Native.Nat.{ℕ, ◌+◌, ◌*◌}
use native.Mathlib.Omega.{arith}
use lib.ListN.{take, drop}
use Rattle.spec_tests.specs.Rules.{pick, ◌≡?◌}
use Rattle.spec_rules.specs.NetlistImage.{memory_port_of}
use Rattle.stored_marks.specs.Runs.{own_by, own_other}
use Rattle.stored_marks.proofs.own.Goals as goal

pub returns-in-0 : goal.returns-in-0
unfolding own_by pick ◌≡?◌
returns-in-0 c = c.stretch.ensures ∙ (ap (λ (n : ℕ). take n (drop 3 c.args.r.now)) c.word_at-w.ensures ∙ sym (ap (own_by c.args.r.now) (sym c.word_at.ensures ∙ c.in-0.is)))

pub returns-in-1 : goal.returns-in-1
unfolding own_by pick ◌≡?◌
returns-in-1 c = c.stretch-in-1.ensures ∙ sym (ap (own_by c.args.r.now) (sym c.word_at.ensures ∙ c.in-1.is))

pub returns-in-2 : goal.returns-in-2
unfolding own_by pick ◌≡?◌
returns-in-2 c =
    c.port_own.ensures ∙ (ap (λ (p : List ℕ). (memory_port_of p).read_data) c.part.ensures ∙ sym (ap (own_by c.args.r.now) (sym c.word_at.ensures ∙ c.in-2.is)))

pub returns-in-3 : goal.returns-in-3
unfolding own_by pick ◌≡?◌
returns-in-3 c = c.stretch-in-3.ensures ∙ (ap (λ (n : ℕ). take n (drop (4 + 2 * n) c.args.r.now)) c.word_at-w.ensures ∙ sym (ap (own_by c.args.r.now) (sym c.word_at.ensures ∙ c.in-3.is)))

pub returns-in_default : goal.returns-in_default
returns-in_default c = c.stretch-in_default.ensures ∙ (ap (λ (n : ℕ). take 1 (drop (3 + 2 * n) c.args.r.now)) c.word_at-w.ensures ∙ own_other c.args.r.now _ (omega (arith, c.word_at.ensures)))
