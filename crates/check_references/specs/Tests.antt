-- Laws of tests: a comparison that code answers with, and what a failed `not` or a choice tells.
use Rattle.std.specs.Prelude.{ℕ, ◌+◌, ◌≤◌, Bool, true, false, not, List, ◌≡◌, refl, leb}
use Rattle.std.proofs.Common.{true≢false, sym, ap, arith, leb-true, leb-false}
use Rattle.spec_tests.specs.Rules.{◌<?◌, ◌≢?◌, pick}
use Rattle.spec_tests.specs.Laws.{lt_yes, lt_no}
use Rattle.spec_rules.specs.Image.{field}

pub le_not : (a b : ℕ) → leb a b ≡ not (b <? a)
le_not a b = go (leb a b) refl
  where
    go : (t : Bool) → leb a b ≡ t → t ≡ not (b <? a)
    go true e = sym (ap not (lt_no b a (leb-true a b e)))
    go false e = sym (ap not (lt_yes b a (leb-false a b e)))

pub not_no : {b : Bool} → not b ≡ false → b ≡ true
not_no {b = true} e = refl
not_no {b = false} e = absurd (true≢false e)

-- a choice is its first or its second side
pub pick_yes : {A : Type 0} {t : Bool} {a r : A} (b : A) → t ≡ true → pick t a b ≡ r → a ≡ r
unfolding pick
pick_yes b e q = rw e at q

pub pick_no : {A : Type 0} {t : Bool} {b r : A} (a : A) → t ≡ false → pick t a b ≡ r → b ≡ r
unfolding pick
pick_no a e q = rw e at q

-- a number that is at least n and not n
pub beyond : (n k : ℕ) → n ≤ k → (k ≡ n → ⊥) → n + 1 ≤ k
beyond n k l h = omega arith

-- field f + i of a record is not 0
unfoldable pub non_zero : List ℕ → ℕ → ℕ → ℕ → ℕ → Bool
non_zero s k r f i = field s k r (f + i) ≢? 0
