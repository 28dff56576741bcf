-- Reduction by levels of pairs, and equality of words. Assumes nothing.
use Rattle.std.specs.Prelude.{◌≡◌, refl, Bool, true, false, not, ◌&&◌, ◌||◌, ℕ, zero, suc, ◌+◌, ◌*◌, ◌≤◌, T, eqb, length}
use Rattle.std.proofs.Common.{sym, ◌∙◌, zero-le, not-suc-le-zero, le_of_suc-le-suc, arith, eqb→eq}
use Rattle.std.proofs.Math.Bool.{and_assoc, or_assoc, and-true, or-false}
use mathlib.Core.List.{List, [], ◌∷◌, foldr}
use Rattle.std.proofs.Math.Dec.{eqb_refl}
use Rattle.spec_rtl.specs.Word.{bit, value}
use Rattle.spec_rtl.specs.Ops.{xor_b, map2, eq_w, any_r, all_r, par_r}

-- one level: neighbours joined, an odd one kept
module _ {A : Type 0} (f : A → A → A) where
  abbrev pub pairs : List A → List A
  pairs [] = []
  pairs (x ∷ []) = x ∷ []
  pairs (x ∷ y ∷ l) = f x y ∷ pairs l

  -- the levels, at most n of them
  abbrev pub levels : ℕ → A → List A → A
  levels zero e [] = e
  levels zero e (x ∷ l) = x
  levels (suc n) e l = levels n e (pairs l)

  module _ (e : A) (unit : (x : A) → f x e ≡ x) (assoc : (x y z : A) → f (f x y) z ≡ f x (f y z)) where
    pub pairs_fold : (l : List A) → foldr f e (pairs l) ≡ foldr f e l
    pairs_fold [] = refl
    pairs_fold (x ∷ []) = refl
    pairs_fold (x ∷ y ∷ l) = rw (pairs_fold l) (assoc x y (foldr f e l))

    pub length_pairs : (l : List A) → length (pairs l) ≤ length l
    length_pairs [] = zero-le
    length_pairs (x ∷ []) = omega arith
    length_pairs (x ∷ y ∷ l) = omega (arith, length_pairs l)

    pub fewer_pairs : (n : ℕ) (l : List A) → length l ≤ suc (suc n) → length (pairs l) ≤ suc n
    fewer_pairs n [] h = zero-le
    fewer_pairs n (x ∷ []) h = omega arith
    fewer_pairs n (x ∷ y ∷ l) h = omega (arith, length_pairs l)

    pub levels_fold : (n : ℕ) (l : List A) → length l ≤ suc n → levels n e l ≡ foldr f e l
    levels_fold zero [] h = refl
    levels_fold zero (x ∷ []) h = sym (unit x)
    levels_fold zero (x ∷ y ∷ l) h = absurd (not-suc-le-zero (le_of_suc-le-suc h))
    levels_fold (suc n) l h = levels_fold n (pairs l) (fewer_pairs n l h) ∙ pairs_fold l

pub xor_assoc : (x y z : Bool) → xor_b (xor_b x y) z ≡ xor_b x (xor_b y z)
xor_assoc true true true = refl
xor_assoc true true false = refl
xor_assoc true false z = refl
xor_assoc false y z = refl

pub xor_false : (x : Bool) → xor_b x false ≡ x
xor_false true = refl
xor_false false = refl

pub tree_any : (l : List Bool) → levels ◌||◌ (length l) false l ≡ any_r l
tree_any l = levels_fold ◌||◌ false or-false or_assoc (length l) l (omega arith)

pub tree_all : (l : List Bool) → levels ◌&&◌ (length l) true l ≡ all_r l
tree_all l = levels_fold ◌&&◌ true and-true and_assoc (length l) l (omega arith)

pub tree_par : (l : List Bool) → levels xor_b (length l) false l ≡ par_r l
tree_par l = levels_fold xor_b false xor_false xor_assoc (length l) l (omega arith)

-- equal words: all places alike
abbrev pub alike : Bool → Bool → Bool
alike x y = not (xor_b x y)

-- two tests are equal if each passes where the other does
pub test_iff : (b c : Bool) → (T b → T c) → (T c → T b) → b ≡ c
test_iff true true f g = refl
test_iff true false f g = absurd (f tt)
test_iff false true f g = absurd (g tt)
test_iff false false f g = refl

pub eqb_iff : (n m p q : ℕ) → (n ≡ m → p ≡ q) → (p ≡ q → n ≡ m) → eqb n m ≡ eqb p q
eqb_iff n m p q f g = test_iff (eqb n m) (eqb p q) (λ t. rw (f (eqb→eq n m t)) (eqb_refl q)) (λ t. rw (g (eqb→eq p q t)) (eqb_refl m))

pub eqb_no : (n m : ℕ) → (n ≡ m → ⊥) → false ≡ eqb n m
eqb_no n m f = test_iff false (eqb n m) (λ t. absurd t) (λ t. f (eqb→eq n m t))

eqb_cons : (x y : Bool) (a b : ℕ) → (alike x y && eqb a b) ≡ eqb (bit x + 2 * a) (bit y + 2 * b)
eqb_cons true true a b = eqb_iff a b (1 + 2 * a) (1 + 2 * b) (omega arith) (omega arith)
eqb_cons true false a b = eqb_no (1 + 2 * a) (0 + 2 * b) (omega arith)
eqb_cons false true a b = eqb_no (0 + 2 * a) (1 + 2 * b) (omega arith)
eqb_cons false false a b = eqb_iff a b (0 + 2 * a) (0 + 2 * b) (omega arith) (omega arith)

pub alike_all : (a b : List Bool) → length a ≡ length b → all_r (map2 alike a b) ≡ eq_w a b
alike_all [] [] l = refl
alike_all [] (y ∷ b) l = absurd (omega arith)
alike_all (x ∷ a) [] l = absurd (omega arith)
alike_all (x ∷ a) (y ∷ b) l = rw (alike_all a b (omega arith)) (eqb_cons x y (value a) (value b))

pub tree_equal : (a b : List Bool) → length a ≡ length b → levels ◌&&◌ (length (map2 alike a b)) true (map2 alike a b) ≡ eq_w a b
tree_equal a b l = tree_all (map2 alike a b) ∙ alike_all a b l
