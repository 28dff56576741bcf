-- Which numbers an answer has: the checks' 1 to 5, the lowering's 6 to 10. Assumes nothing.
use Rattle.std.specs.Prelude.{ℕ, ◌≤◌, Bool, true, false, List}
use Rattle.std.proofs.Common.{arith}
use Rattle.spec_tests.specs.Rules.{Answer, Fine, Refused, pick, and_then, ◌<?◌, first}
use Rattle.spec_rules.specs.Image.{count_at_of}
use Rattle.spec_rules.specs.Checks as rule

-- the number of a refusal is from lo to hi
abbrev pub Numbered : ℕ → ℕ → Answer → Type 0
Numbered lo hi Fine = Unit {0}
Numbered lo hi (Refused k x y) = (lo ≤ k) × (k ≤ hi)

picked : (lo hi k x y : ℕ) (t : Bool) → lo ≤ k → k ≤ hi → Numbered lo hi (pick t (Refused k x y) Fine)
unfolding pick
picked lo hi k x y true a b = (a, b)
picked lo hi k x y false a b = tt

then_within : (lo hi : ℕ) (a b : Answer) → Numbered lo hi a → Numbered lo hi b → Numbered lo hi (and_then a b)
unfolding and_then
then_within lo hi Fine b h k = k
then_within lo hi (Refused n x y) b h k = h

section_within : (s : List ℕ) (k : ℕ) (bad : ℕ → Bool) → Numbered 1 5 (rule.section s k bad)
unfolding rule.section
section_within s k bad = picked 1 5 4 k (first bad (count_at_of s k)) (first bad (count_at_of s k) <? count_at_of s k) (omega arith) (omega arith)

pub checked_within : (s : List ℕ) (N P netlist scratch : ℕ) → Numbered 1 5 (rule.checked s N P netlist scratch)
unfolding rule.checked rule.refuse rule.header rule.records
checked_within s N P netlist scratch =
    then_within 1 5 _ _ (picked 1 5 1 0 0 _ (omega arith) (omega arith))
    (then_within 1 5 _ _ (picked 1 5 2 0 0 _ (omega arith) (omega arith))
    (then_within 1 5 _ _ (picked 1 5 3 (rule.first_field s) 0 _ (omega arith) (omega arith))
    (then_within 1 5 _ _
    (then_within 1 5 _ _ (section_within s 0 (rule.bad_signal s)) (then_within 1 5 _ _ (section_within s 1 (rule.bad_expr s)) (then_within 1 5 _ _ (section_within s 3 (rule.bad_assign s))
    (then_within 1 5 _ _ (section_within s 4 (rule.bad_register s)) (section_within s 5 (rule.bad_memory s))))))
    (picked 1 5 5 0 0 _ (omega arith) (omega arith)))))
