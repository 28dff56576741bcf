-- The answer of the check as its numbers, and laws of the order in which the checks run.
use Rattle.std.specs.Prelude.{ℕ, List, Bool, true, false, Some, None, Result, Ok, Err, ◌≡◌, refl}
use Rattle.std.proofs.Common.{sym, arith}
use Rattle.spec_tests.specs.Rules.{◌<?◌, pick, first, Answer, Fine, Refused, and_then}
use Rattle.spec_tests.specs.Laws.{lt_yes, lt_no, pick_hit, pick_skip}
use Rattle.spec_tests.specs.Options.{first_of}
use Rattle.spec_chains.specs.Search.{some_tells, none_tells}
use Rattle.spec_rules.specs.Image.{count_at_of}
use Rattle.spec_rules.specs.Checks as rule
use Rattle.check_header.specs.Header.{field_found, found_tells, none_found}
use Rattle.check_image.specs.declared.Refusal.{Refusal}
use Rattle.check_image.specs.declared.Refusal.TheVariants.{Limits, NetlistShort, Field, Record, ScratchShort}

-- a refusal by its number and its two places
abbrev pub refusal_of : Refusal → Answer
refusal_of Limits = Refused 1 0 0
refusal_of NetlistShort = Refused 2 0 0
refusal_of (Field f) = Refused 3 f 0
refusal_of (Record k r) = Refused 4 k r
refusal_of ScratchShort = Refused 5 0 0

-- the answer as its numbers
abbrev pub answer_of : Result (Unit {0}) Refusal → Answer
answer_of (Ok u) = Fine
answer_of (Err e) = refusal_of e

pub then_fine : {c d r : Answer} → c ≡ Fine → r ≡ d → r ≡ and_then c d
unfolding and_then
then_fine e q = rw e q

pub then_refused : {c : Answer} (d : Answer) (n a b : ℕ) → c ≡ Refused n a b → Refused n a b ≡ and_then c d
unfolding and_then
then_refused d n a b e = rw e

pub then_both : (c d : Answer) → and_then c d ≡ Fine → (c ≡ Fine) × (d ≡ Fine)
unfolding and_then
then_both Fine d e = (refl, e)
then_both (Refused n a b) d e = let z : ◌≡◌ {A = ℕ} 0 1 = cc in absurd (omega arith)

pub refuse_yes : {t : Bool} (n : ℕ) → t ≡ true → rule.refuse t n ≡ Refused n 0 0
unfolding rule.refuse pick
refuse_yes n e = rw e

pub refuse_no : {t : Bool} (n : ℕ) → t ≡ false → rule.refuse t n ≡ Fine
unfolding rule.refuse pick
refuse_no n e = rw e

-- ---- a section's answer, from its first bad record ----

pub section_bad : (s : List ℕ) (k : ℕ) (bad : ℕ → Bool) (r : ℕ) → Some r ≡ first_of bad (count_at_of s k) → rule.section s k bad ≡ Refused 4 k r
unfolding rule.section
section_bad s k bad r e = let t = some_tells bad (count_at_of s k) r (sym e) in rw t.1 (sym (pick_hit _ (lt_yes r (count_at_of s k) t.0) refl))

pub all_good : (s : List ℕ) (k : ℕ) (bad : ℕ → Bool) → None ≡ first_of bad (count_at_of s k) → first bad (count_at_of s k) ≡ count_at_of s k
all_good s k bad e = none_tells bad (count_at_of s k) (sym e)

pub section_fine : (s : List ℕ) (k : ℕ) (bad : ℕ → Bool) → None ≡ first_of bad (count_at_of s k) → rule.section s k bad ≡ Fine
unfolding rule.section
section_fine s k bad e = let t = all_good s k bad e in sym (pick_skip _ (lt_no _ _ (omega arith)) refl)

-- ---- the header's answer, from its first wrong field ----

pub header_bad : (s : List ℕ) (f : ℕ) → Some f ≡ field_found s → rule.header s ≡ Refused 3 f 0
unfolding rule.header
header_bad s f e = let t = found_tells s f (sym e) in rw t.1 (sym (pick_hit _ (lt_yes f 16 t.0) refl))

pub header_fine : (s : List ℕ) → None ≡ field_found s → rule.header s ≡ Fine
unfolding rule.header
header_fine s e = sym (pick_skip _ (lt_no _ _ (none_found s (sym e))) refl)

-- ---- the sections in their order ----

-- assignments, registers, memories, then the scratch
unfoldable pub drivers_then : List ℕ → ℕ → ℕ → Answer
drivers_then s N scratch =
    and_then (rule.section s 3 (rule.bad_assign s)) (and_then (rule.section s 4 (rule.bad_register s)) (and_then (rule.section s 5 (rule.bad_memory s))
    (rule.refuse (scratch <? rule.scratch_need s N) 5)))

unfoldable pub records_then : List ℕ → ℕ → ℕ → Answer
records_then s N scratch = and_then (rule.section s 0 (rule.bad_signal s)) (and_then (rule.section s 1 (rule.bad_expr s)) (drivers_then s N scratch))

then_assoc : (a b c : Answer) → and_then (and_then a b) c ≡ and_then a (and_then b c)
unfolding and_then
then_assoc Fine b c = refl
then_assoc (Refused n x y) b c = refl

pub in_order : (s : List ℕ) (N scratch : ℕ) → records_then s N scratch ≡ and_then (rule.records s) (rule.refuse (scratch <? rule.scratch_need s N) 5)
unfolding records_then drivers_then rule.records
in_order s N scratch = sym (simp then_assoc)
