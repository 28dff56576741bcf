-- `stored_given::is_record` meets its contract. Assumes nothing.
use mathlib.Core.Path.{ap, ◌∙◌}
use mathlib.Core.Bool.{not}
use Prim.Native.Nat.{ℕ}
use native.Mathlib.Omega.{arith}
use lib.ListN.{length}
use Rattle.spec_tests.specs.Rules.{◌<?◌}
use Rattle.stored_given.specs.Records.{past_used, other_sort, by_length}
use Rattle.stored_given.proofs.is_record.Goals as goal

pub returns-then-word_at-p : goal.returns-then-word_at-p
returns-then-word_at-p c = past_used c.args.net.now c.args.p (omega (arith, c.word_at.ensures))

pub returns-then-word_at-gt-COMPARISON_RECORD : goal.returns-then-word_at-gt-COMPARISON_RECORD
returns-then-word_at-gt-COMPARISON_RECORD c = other_sort c.args.net.now c.args.p c.list_from-l.ensures (omega (arith, c.word_at.ensures)) (omega (arith, c.word_at-2.ensures))

pub returns : goal.returns
unfolding ◌<?◌
returns c = ap (λ (k : ℕ). not (length c.list_from-l.result.now <? k)) c.record_length.ensures ∙ by_length c.args.net.now c.args.p c.list_from-l.ensures (omega (arith, c.word_at.ensures)) (omega (arith, c.word_at-2.ensures))
