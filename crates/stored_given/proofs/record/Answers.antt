-- `stored_given::record` meets its contract. Assumes nothing.
use Rattle.std.proofs.Common.{Some}
use Rattle.spec_tests.specs.Laws.{pick_hit, pick_skip}
use mathlib.Core.Path.{refl, ap, ◌∙◌}
use mathlib.Core.List.{[], ◌∷◌}
use Prim.Native.Nat.{ℕ, ◌+◌}
use native.Mathlib.Omega.{arith}
use Rattle.spec_rules.specs.NetlistImage.{record_length}
use Rattle.stored_given.specs.Records.{the_record, ends, not_told_true, not_told_false}
use mathlib.Core.Bool.{not}
use Rattle.stored_given.proofs.record.Goals as goal

pub returns-then-not-is_record : goal.returns-then-not-is_record
returns-then-not-is_record c = pick_skip _ (not_told_true c.is_record.ensures (ap not c.if-not-is_record.true)) refl

pub overflow_cast-length : goal.overflow_cast-length
overflow_cast-length c = omega (arith, c.shared_slice_known-1.given 3, ends c.args.net.now c.args.p (not_told_false c.is_record.ensures (ap not c.if-not-is_record.false)), c.record_length-length.ensures ∙ ap record_length c.list_from-l.ensures)

pub overflow_add-result : goal.overflow_add-result
overflow_add-result c = omega (arith, c.shared_slice_known-1.given 3, ends c.args.net.now c.args.p (not_told_false c.is_record.ensures (ap not c.if-not-is_record.false)), c.record_length-length.ensures ∙ ap record_length c.list_from-l.ensures)

pub returns : goal.returns
returns c =
    let there = not_told_false c.is_record.ensures (ap not c.if-not-is_record.false) in
    pick_hit _ there
    (ap Some (ap (λ (t : ℕ). t ∷ c.record_length-length.result ∷ (c.args.p + c.record_length-length.result) ∷ []) c.word_at.ensures ∙ the_record c.args.net.now c.args.p there c.list_from-l.ensures c.record_length-length.ensures))
