-- What `any` and `position` answer over a slice, in the words of the rules. Assumes nothing.
use Rattle.std.specs.Prelude.{ℕ, zero, suc, ◌+◌, ◌<◌, cond, not, ltb, Option, Some, None, ◌≡◌, refl, Bool, true, false, ◌||◌, List, [], ◌∷◌, length, get_or}
use Rattle.std.specs.List.{list_any, position_or_len, position}
use Rattle.std.proofs.Common.{not-suc-le-zero, arith, sym, ap, ◌∙◌}
use Rattle.spec_tests.specs.Rules.{◌<?◌, pick, up_to, first, any}
use Rattle.spec_tests.specs.Options.{first_of}
use Rattle.spec_tests.specs.Any.{same_bool, any_found, any_at}

module _ (test : ℕ → Bool) where
  record Found (xs : List ℕ) : Type 0 where
    pub at : ℕ
    pub inside : at < length xs
    pub is : test (get_or xs at 0) ≡ true

  found_in : (xs : List ℕ) → list_any test xs ≡ true → Found xs
  found_in [] e = cc
  found_in (x ∷ xs) e = go (test x) refl (λ l. found_in xs l)
    where
      later : Found xs → Found (x ∷ xs)
      later f = record { at = suc f.at; inside = (let h = f.inside in omega arith); is = f.is }

      go : (b : Bool) → test x ≡ b → (list_any test xs ≡ true → Found xs) → Found (x ∷ xs)
      go true t rest = record { at = 0; inside = omega arith; is = t }
      go false t rest = later (rest (sym (ap (λ (b : Bool). b || list_any test xs) t) ∙ e))

  at_found : (xs : List ℕ) (k : ℕ) → k < length xs → test (get_or xs k 0) ≡ true → list_any test xs ≡ true
  at_found [] k h e = absurd (not-suc-le-zero h)
  at_found (x ∷ xs) zero h e = ap (λ (b : Bool). b || list_any test xs) e
  at_found (x ∷ xs) (suc k) h e = go (test x) (at_found xs k (omega arith) e)
    where
      go : (b : Bool) → list_any test xs ≡ true → (b || list_any test xs) ≡ true
      go true t = refl
      go false t = t

  pub any_in_list : (xs : List ℕ) → list_any test xs ≡ any (λ i. test (get_or xs i 0)) (length xs)
  any_in_list xs = same_bool
      (λ e. (let f = found_in xs e in any_at (λ i. test (get_or xs i 0)) (length xs) f.at f.inside f.is))
      (λ e. (let f = any_found (λ i. test (get_or xs i 0)) (length xs) e in at_found xs _ f.0 f.1))

  -- p is the test on the elements from number i on
  up_to_list : (xs : List ℕ) (p : ℕ → Bool) (i : ℕ) → ((j : ℕ) → j < length xs → p (i + j) ≡ test (get_or xs j 0)) → up_to p i (length xs) ≡ i + position_or_len test xs
  unfolding up_to pick
  up_to_list [] p i h = omega arith
  up_to_list (x ∷ xs) p i h =
      go (p i) (test x) (ap p (omega arith) ∙ h 0 (omega arith)) (up_to_list xs p (suc i) (λ j l. ap p (omega arith) ∙ h (suc j) (omega arith)))
    where
      go : (a b : Bool) → a ≡ b → up_to p (suc i) (length xs) ≡ suc i + position_or_len test xs → pick a i (up_to p (suc i) (length xs)) ≡ i + cond (not b) (1 + position_or_len test xs) 0
      go true true e r = omega arith
      go true false e r = cc
      go false true e r = cc
      go false false e r = omega arith

  pub first_in_list : (xs : List ℕ) → position_or_len test xs ≡ first (λ i. test (get_or xs i 0)) (length xs)
  unfolding first
  first_in_list xs = sym (up_to_list xs (λ i. test (get_or xs i 0)) 0 (λ j l. ap (λ (k : ℕ). test (get_or xs k 0)) (omega arith)) ∙ omega arith)

  pub position_in_list : (xs : List ℕ) → position test xs ≡ first_of (λ i. test (get_or xs i 0)) (length xs)
  unfolding first_of pick ◌<?◌
  position_in_list xs = by (position_or_len test xs) (first (λ i. test (get_or xs i 0)) (length xs)) (first_in_list xs)
    where
      by : (k n : ℕ) → k ≡ n → cond (ltb k (length xs)) (Some k) None ≡ pick (ltb n (length xs)) (Some n) None
      by k n e = rw e (same (ltb n (length xs)))
        where
          same : (b : Bool) → cond b (Some n) None ≡ pick b (Some n) None
          same true = refl
          same false = refl
