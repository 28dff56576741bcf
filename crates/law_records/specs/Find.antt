-- The first of a list that meets a test, and the same after one more at its end. Assumes nothing.
use Rattle.std.specs.Prelude.{◌≡◌, refl, Bool, true, false, cond, ◌&&◌, List, [], ◌∷◌, ◌++◌, ℕ, eqb}
use Rattle.std.proofs.Math.Option.{Option, none, some}
use Rattle.std.proofs.Common.{arith}
use Rattle.spec_rules.specs.NetlistImage as N
use Rattle.spec_rules.specs.Step.{perhaps, find_memory, find_bit, find_port}

abbrev pub find : {A : Type 0} → (A → Bool) → List A → Option A
find p [] = none
find p (x ∷ xs) = cond (p x) (some x) (find p xs)

module _ {A : Type 0} (p : A → Bool) (y : A) where
  pub find_old : (xs : List A) (z : A) → find p xs ≡ some z → find p (xs ++ (y ∷ [])) ≡ some z
  find_old [] z e = let q : ◌≡◌ {A = ℕ} 0 1 = cc in absurd (omega arith)
  find_old (x ∷ xs) z e = go (p x) (find_old xs z) e
    where
      go : (t : Bool) → (find p xs ≡ some z → find p (xs ++ (y ∷ [])) ≡ some z) → cond t (some x) (find p xs) ≡ some z → cond t (some x) (find p (xs ++ (y ∷ []))) ≡ some z
      go true r e = e
      go false r e = r e

  -- where nothing met the test, the last decides
  pub find_last : (xs : List A) → find p xs ≡ none → find p (xs ++ (y ∷ [])) ≡ cond (p y) (some y) none
  find_last [] e = refl
  find_last (x ∷ xs) e = go (p x) (find_last xs) e
    where
      go : (t : Bool) → (find p xs ≡ none → find p (xs ++ (y ∷ [])) ≡ cond (p y) (some y) none) → cond t (some x) (find p xs) ≡ none
          → cond t (some x) (find p (xs ++ (y ∷ []))) ≡ cond (p y) (some y) none
      go true r e = let q : ◌≡◌ {A = ℕ} 0 1 = cc in absurd (omega arith)
      go false r e = r e

pub memory_find : (xs : List N.MemoryCell) (k : ℕ) → find_memory xs k ≡ find (λ x. eqb x.index k) xs
memory_find [] k = refl
memory_find (x ∷ xs) k = rw (memory_find xs k)

pub bit_find : (xs : List N.RegisterBit) (k i : ℕ) → find_bit xs k i ≡ find (λ x. eqb x.index k && eqb x.bit i) xs
bit_find [] k i = refl
bit_find (x ∷ xs) k i = rw (bit_find xs k i)

pub port_find : (xs : List N.OutPort) (p : ℕ) → find_port xs p ≡ perhaps [] (λ (x : N.OutPort). x.nets) (find (λ x. eqb x.signal p) xs)
port_find [] p = refl
port_find (x ∷ xs) p = go (eqb x.signal p) (port_find xs p)
  where
    go : (t : Bool) → find_port xs p ≡ perhaps [] (λ (x : N.OutPort). x.nets) (find (λ x. eqb x.signal p) xs)
        → cond t x.nets (find_port xs p) ≡ perhaps [] (λ (x : N.OutPort). x.nets) (cond t (some x) (find (λ x. eqb x.signal p) xs))
    go true r = refl
    go false r = r
