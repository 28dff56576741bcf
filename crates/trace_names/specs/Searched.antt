-- What the search for a name's place tells. Assumes nothing.
use Rattle.std.specs.Prelude.{ℕ, zero, suc, ◌≤◌, ◌<◌, ◌≡◌, refl, Bool, true, false, ◌⊎◌, List, length, get_or}
use Rattle.std.proofs.Common.{arith, ap, ◌∙◌, inl, inr, ⊎_elim}
use Rattle.std.proofs.Math.Decide.{dec_lt}
use Rattle.spec_tests.specs.Rules.{◌≡?◌, ◌or◌, pick, up_to, first, any}
use Rattle.spec_tests.specs.Laws.{or_no, or_yes, no_eq, yes_eq, lt_yes, first_most}
use Rattle.spec_tests.specs.Any.{any_found}

-- no place below r has number n or is free
abbrev pub Others : List ℕ → ℕ → ℕ → Type 0
Others names n r = (j : ℕ) → j < r → (get_or names j 0 ≡ n → ⊥) × (get_or names j 0 ≡ 0 → ⊥)

-- place r has it or is free
abbrev pub Fits : List ℕ → ℕ → ℕ → Type 0
Fits names n r = (get_or names r 0 ≡ n) ⊎ (get_or names r 0 ≡ 0)

pub record Place (names : List ℕ) (n r : ℕ) : Type 0 where
  pub up_to : r ≤ length names
  pub others : Others names n r
  pub fits : r < length names → Fits names n r

before : (p : ℕ → Bool) (i k j : ℕ) → i ≤ j → j < up_to p i k → p j ≡ false
unfolding up_to pick
before p i zero j l h = absurd (omega arith)
before p i (suc k) j l h = go (p i) refl h (before p (suc i) k j)
  where
    go : (b : Bool) → p i ≡ b → j < pick b i (up_to p (suc i) k) → (suc i ≤ j → j < up_to p (suc i) k → p j ≡ false) → p j ≡ false
    go true q f ih = absurd (omega arith)
    go false q f ih = elim (dec_lt i j) [
      | yes m ↦ ih m f
      | no m ↦ (let e : j ≡ i = omega arith in ap p e ∙ q)
    ]

pub place_told : (names : List ℕ) (n r : ℕ) → r ≡ first (λ i. get_or names i 0 ≡? n or get_or names i 0 ≡? 0) (length names) → Place names n r
unfolding first any
place_told names n r e = record {
  up_to = (let m = first_most p (length names) in omega arith);
  others = λ j h. (let f = or_no (before p 0 (length names) j (omega arith) (omega (arith, e, h))) in (no_eq (get_or names j 0) n f.0, no_eq (get_or names j 0) 0 f.1));
  fits = λ h. told (ap p e ∙ (any_found p (length names) (lt_yes (first p (length names)) (length names) (omega arith))).1);
}
  where
    p : ℕ → Bool
    p i = get_or names i 0 ≡? n or get_or names i 0 ≡? 0

    told : p r ≡ true → (get_or names r 0 ≡ n) ⊎ (get_or names r 0 ≡ 0)
    told q = ⊎_elim (λ (a : (get_or names r 0 ≡? n) ≡ true). inl (yes_eq (get_or names r 0) n a)) (λ (a : (get_or names r 0 ≡? 0) ≡ true). inr (yes_eq (get_or names r 0) 0 a)) (or_yes q)

pub place_there : {names : List ℕ} {n r : ℕ} → Place names n r → (r ≡ length names → ⊥) → r < length names
place_there {names} {n} {r} p ne = elim (dec_lt r (length names)) [
  | yes l ↦ l
  | no l ↦ absurd (ne (let u = p.up_to in omega arith))
]
