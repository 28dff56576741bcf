-- Whether a text has a byte with a property, byte by byte. Assumes nothing.
use Rattle.std.specs.Prelude.{ℕ, zero, suc, ◌+◌, ◌≤◌, ◌<◌, ◌≡◌, refl, Bool, true, false, ◌||◌, List, [], ◌∷◌, ◌++◌, length, take, get_or}
use Rattle.std.specs.List.{list_any}
use Rattle.std.proofs.Common.{not-suc-le-zero, add-one, arith, sym, ap, ◌∙◌, take-suc, take_all}
use Rattle.spec_tests.specs.Rules.{◌<?◌, pick, only}
use Rattle.spec_tests.specs.Laws.{no_lt, lt_yes, lt_no}
use Rattle.spec_trace.specs.Opened.{having}
use Rattle.law_told.specs.Told.{untrue, pick_yes, pick_no}

having_snoc : (f : ℕ → Bool) (xs : List ℕ) (x : ℕ) → having f xs ≡ false → f x ≡ false → having f (xs ++ (x ∷ [])) ≡ false
unfolding having only pick
having_snoc f [] x a b = none_one (f x) b
  where
    none_one : (c : Bool) → c ≡ false → (0 <? length (pick c (x ∷ []) [])) ≡ false
    none_one true e = untrue (sym e)
    none_one false e = lt_no 0 0 (omega arith)
having_snoc f (y ∷ xs) x a b = go (f y) a (having_snoc f xs x)
  where
    go : (c : Bool) → (0 <? length (pick c (y ∷ only f xs) (only f xs))) ≡ false → (having f xs ≡ false → f x ≡ false → having f (xs ++ (x ∷ [])) ≡ false) → (0 <? length (pick c (y ∷ only f (xs ++ (x ∷ []))) (only f (xs ++ (x ∷ []))))) ≡ false
    go true e ih = absurd (let z = no_lt 0 (length (y ∷ only f xs)) e in omega arith)
    go false e ih = ih e b

pub letters_more : (l : List ℕ) (i : ℕ) → i < length l → (f : ℕ → Bool) → having f (take i l) ≡ false → f (get_or l i 0) ≡ false → having f (take (i + 1) l) ≡ false
letters_more l i h f a b = rw (add-one, take-suc l i 0 h) (having_snoc f (take i l) (get_or l i 0) a b)

pub letters_all : (l : List ℕ) (i : ℕ) → length l ≤ i → (f : ℕ → Bool) → having f (take i l) ≡ false → false ≡ having f l
letters_all l i h f a = sym (ap (having f) (sym (take_all i l h)) ∙ a)

pub letters_none : (l : List ℕ) (f : ℕ → Bool) → having f (take 0 l) ≡ false
unfolding having only
letters_none l f = lt_no 0 0 (omega arith)

pub letters_found : (l : List ℕ) (i : ℕ) → i < length l → (f : ℕ → Bool) → f (get_or l i 0) ≡ true → true ≡ having f l
unfolding having only
letters_found l i h f e = sym (lt_yes 0 (length (only f l)) (some l i h e))
  where
    some : (l : List ℕ) (i : ℕ) → i < length l → f (get_or l i 0) ≡ true → 0 < length (only f l)
    some [] i h e = absurd (not-suc-le-zero h)
    some (x ∷ l) zero h e = let z = ap length (pick_yes (f x) (x ∷ only f l) (only f l) e) in omega arith
    some (x ∷ l) (suc i) h e = more (f x) (some l i (omega arith) e)
      where
        more : (c : Bool) → 0 < length (only f l) → 0 < length (pick c (x ∷ only f l) (only f l))
        more true q = let z = ap length (pick_yes true (x ∷ only f l) (only f l) refl) in omega arith
        more false q = let z = ap length (pick_no false (x ∷ only f l) (only f l) refl) in omega arith

pub none_there : (f : ℕ → Bool) (l : List ℕ) → having f l ≡ false → (i : ℕ) → i < length l → f (get_or l i 0) ≡ false
none_there f l e i h = go (f (get_or l i 0)) refl
  where
    go : (b : Bool) → f (get_or l i 0) ≡ b → b ≡ false
    go true q = untrue (sym e ∙ sym (letters_found l i h f q))
    go false q = refl

-- what `any` answers over a text
pub list_having : (f : ℕ → Bool) (xs : List ℕ) → list_any f xs ≡ having f xs
unfolding having only pick
list_having f [] = sym (lt_no 0 0 (omega arith))
list_having f (x ∷ xs) = go (f x) (list_having f xs)
  where
    go : (b : Bool) → list_any f xs ≡ having f xs → (b || list_any f xs) ≡ (0 <? length (pick b (x ∷ only f xs) (only f xs)))
    go true e = sym (lt_yes 0 (length (x ∷ only f xs)) (omega arith))
    go false e = e
