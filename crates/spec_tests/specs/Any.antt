-- Laws of `any`: tests that agree, that never hold, that hold somewhere; the number found; one number more. Assumes nothing.
use Rattle.std.specs.Prelude.{ℕ, zero, suc, ◌+◌, ◌<◌, Bool, true, false, ◌≡◌, refl}
use Rattle.std.proofs.Common.{true≢false, ⊎_elim, sym, ap, ap₂, ◌∙◌, arith, eq-or-lt_of_le, add-zero}
use Rattle.spec_tests.specs.Rules.{◌<?◌, ◌or◌, pick, up_to, first, any}
use Rattle.spec_tests.specs.Laws.{or_yes, or_left, or_right, lt_yes, lt_no, yes_lt, not_any}

pub same_bool : {x y : Bool} → (x ≡ true → y ≡ true) → (y ≡ true → x ≡ true) → x ≡ y
same_bool {x = true} {y} f g = sym (f refl)
same_bool {x = false} {y = true} f g = g refl
same_bool {x = false} {y = false} f g = refl

up_to_ext : (p q : ℕ → Bool) (i k : ℕ) → ((j : ℕ) → j < i + k → p j ≡ q j) → up_to p i k ≡ up_to q i k
unfolding up_to
up_to_ext p q i zero h = refl
up_to_ext p q i (suc k) h = ap₂ (λ (t : Bool) (r : ℕ). pick t i r) (h i (omega arith)) (up_to_ext p q (suc i) k (λ j b. h j (omega arith)))

pub any_ext : (p q : ℕ → Bool) (n : ℕ) → ((j : ℕ) → j < n → p j ≡ q j) → any p n ≡ any q n
unfolding any first
any_ext p q n h = ap (λ (k : ℕ). k <? n) (up_to_ext p q 0 n (λ j b. h j (omega arith)))

up_to_none : (i k : ℕ) → up_to (λ j. false) i k ≡ i + k
unfolding up_to pick
up_to_none i zero = sym (add-zero i)
up_to_none i (suc k) = up_to_none (suc i) k ∙ omega arith

pub any_none : (p : ℕ → Bool) (n : ℕ) → ((j : ℕ) → j < n → p j ≡ false) → any p n ≡ false
unfolding any first
any_none p n h = any_ext p (λ j. false) n h ∙ ap (λ (k : ℕ). k <? n) (up_to_none 0 n) ∙ lt_no (0 + n) n (omega arith)

pub any_first : (p : ℕ → Bool) (n : ℕ) → p 0 ≡ true → any p (suc n) ≡ true
unfolding any first up_to pick
any_first p n e = rw e (lt_yes 0 (suc n) (omega arith))

pub any_empty : (p : ℕ → Bool) → any p 0 ≡ false
unfolding any
any_empty p = lt_no _ _ (omega arith)

pub any_at : (p : ℕ → Bool) (n i : ℕ) → i < n → p i ≡ true → any p n ≡ true
any_at p n i h e = go (any p n) refl
  where
    go : (t : Bool) → any p n ≡ t → t ≡ true
    go true q = refl
    go false q = absurd (true≢false (sym e ∙ not_any p n q i h))

up_to_found : (p : ℕ → Bool) (i k : ℕ) → up_to p i k < i + k → p (up_to p i k) ≡ true
unfolding up_to pick
up_to_found p i zero h = absurd (omega arith)
up_to_found p i (suc k) h = go (p i) refl h (up_to_found p (suc i) k)
  where
    go : (b : Bool) → p i ≡ b → pick b i (up_to p (suc i) k) < i + suc k → (up_to p (suc i) k < suc i + k → p (up_to p (suc i) k) ≡ true) → p (pick b i (up_to p (suc i) k)) ≡ true
    go true q f ih = q
    go false q f ih = ih (omega arith)

-- the number that `any` has found
pub any_found : (p : ℕ → Bool) (n : ℕ) → any p n ≡ true → (first p n < n) × (p (first p n) ≡ true)
unfolding any first
any_found p n e =
    let h : up_to p 0 n < n = yes_lt _ _ e in
    (h, up_to_found p 0 n (omega arith))

pub any_more : (p : ℕ → Bool) (n : ℕ) → any p (n + 1) ≡ (any p n or p n)
any_more p n = same_bool fore back
  where
    fore : any p (n + 1) ≡ true → (any p n or p n) ≡ true
    fore e =
        let f = any_found p (n + 1) e in
        ⊎_elim (λ (q : first p (n + 1) ≡ n). or_right _ (ap p (sym q) ∙ f.1))
        (λ (q : first p (n + 1) < n). or_left _ (any_at p n _ q f.1))
        (eq-or-lt_of_le (omega arith))

    back : (any p n or p n) ≡ true → any p (n + 1) ≡ true
    back e =
        ⊎_elim (λ (q : any p n ≡ true). let f = any_found p n q in any_at p (n + 1) _ (omega (arith, f.0)) f.1)
        (λ (q : p n ≡ true). any_at p (n + 1) n (omega arith) q)
        (or_yes e)
