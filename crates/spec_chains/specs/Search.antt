-- Searches over the numbers below n and over a list, in the words `first_of` and `any`: what an answer tells. Assumes nothing.
use Rattle.std.specs.Prelude.{◌≡◌, ℕ, zero, suc, ◌<◌, ◌≤◌, Bool, true, false, Some, None, List, [], ◌∷◌, ◌||◌, length, get_or, refl}
use Rattle.std.proofs.Common.{⊎_elim, sym, ◌∙◌, subst, arith, add-one}
use Rattle.std.specs.List.{list_any}
use Rattle.spec_tests.specs.Rules.{◌<?◌, ◌or◌, pick, first, any}
use Rattle.spec_tests.specs.Laws.{or_yes, or_left, or_right, from, begins, passed, yes_lt, no_lt, first_most}
use Rattle.spec_tests.specs.Any.{same_bool, any_at, any_first, any_found, any_empty}
use Rattle.spec_tests.specs.Options.{first_of}

-- the numbers below i are passed over
pub reached : (p : ℕ → Bool) (n i : ℕ) → i ≤ n → ((k : ℕ) → k < i → p k ≡ false) → first p n ≡ from p n i
reached p n zero h out = begins p n
reached p n (suc i) h out = rw (← add-one) (reached p n i (omega arith) (λ k l. out k (omega arith)) ∙ passed p n i (omega arith) (out i (omega arith)))

-- ---- what an answer tells ----

some_none : {A : Type 0} {x : A} → Some x ≡ None → ⊥
some_none e = cc

-- a place a that counts where it is below n
pub some_below : (a n i : ℕ) → pick (a <? n) (Some a) None ≡ Some i → (i < n) × (a ≡ i)
unfolding pick
some_below a n i = go (a <? n) refl
  where
    go : (t : Bool) → (a <? n) ≡ t → pick t (Some a) None ≡ Some i → (i < n) × (a ≡ i)
    go true e h = let s : a ≡ i = cc in (subst (λ (k : ℕ). k < n) s (yes_lt _ _ e), s)
    go false e h = absurd (some_none (sym h))

pub none_below : (a n : ℕ) → pick (a <? n) (Some a) None ≡ None → n ≤ a
unfolding pick
none_below a n = go (a <? n) refl
  where
    go : (t : Bool) → (a <? n) ≡ t → pick t (Some a) None ≡ None → n ≤ a
    go true e h = absurd (some_none h)
    go false e h = no_lt _ _ e

pub some_tells : (p : ℕ → Bool) (n i : ℕ) → first_of p n ≡ Some i → (i < n) × (first p n ≡ i)
unfolding first_of
some_tells p n i e = some_below (first p n) n i e

pub none_tells : (p : ℕ → Bool) (n : ℕ) → first_of p n ≡ None → first p n ≡ n
unfolding first_of
none_tells p n e = omega (arith, none_below (first p n) n e, first_most p n)

-- ---- in a list ----

any_later : (p : ℕ → Bool) (n : ℕ) → any p (suc n) ≡ (p 0 or any (λ k. p (suc k)) n)
any_later p n = same_bool fore back
  where
    later : (i : ℕ) → i < suc n → p i ≡ true → (p 0 or any (λ k. p (suc k)) n) ≡ true
    later zero h e = or_left _ e
    later (suc i) h e = or_right _ (any_at _ n i (omega arith) e)

    fore : any p (suc n) ≡ true → (p 0 or any (λ k. p (suc k)) n) ≡ true
    fore e = let f = any_found p (suc n) e in later _ f.0 f.1

    back : (p 0 or any (λ k. p (suc k)) n) ≡ true → any p (suc n) ≡ true
    back e = ⊎_elim (λ q. any_first p n q) (λ q. let f = any_found _ n q in any_at p (suc n) (suc (first (λ k. p (suc k)) n)) (omega (arith, f.0)) f.1) (or_yes e)

both_or : (t : Bool) {a b : Bool} → a ≡ b → (t || a) ≡ (t or b)
unfolding ◌or◌
both_or true e = refl
both_or false e = e

-- `any` of a slice, and `contains`
pub any_in_list : (p : ℕ → Bool) (xs : List ℕ) → list_any p xs ≡ any (λ k. p (get_or xs k 0)) (length xs)
any_in_list p [] = sym (any_empty _)
any_in_list p (x ∷ xs) = both_or (p x) (any_in_list p xs) ∙ sym (any_later (λ k. p (get_or (x ∷ xs) k 0)) (length xs))
