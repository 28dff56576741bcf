-- Drivers of signal bits, as words of the scratch. Assumes nothing.
use Rattle.std.specs.Prelude.{◌≡◌, refl, Bool, true, false, cond, ◌&&◌, List, ℕ, zero, suc, ◌+◌, ◌-◌, ◌/◌, ◌%◌, ◌≤◌, ◌<◌, eqb, leb, ltb}
use Rattle.std.proofs.Common.{sym, true≢false, arith, eqb-true, leb-true, ltb-true, eq-eqb, le-leb, lt-ltb}
use Rattle.std.proofs.Math.Option.{Option, none, some}
use Rattle.spec_tests.specs.Rules.{each, list_of}
use Rattle.spec_rtl.specs.Rtl as R
use Rattle.spec_rtl.specs.Rtl.{by_assign}
use Rattle.spec_rules.specs.Image.{count_at_of, field, expr_width, assign_at, decode}
use Rattle.spec_model.specs.Lowering.{driver_of, expr_driver}
use Rattle.scratch_view.specs.View.{Drives, Sized, driver_word}

-- ---- the word of a driver ----

-- the driver's bit fits its ten bits
abbrev pub Low : Option (ℕ × ℕ) → Type 0
Low none = Unit {0}
Low (some d) = d.1 < 1024

pub word_none : (o : Option (ℕ × ℕ)) → driver_word o ≡ 0 → o ≡ none
unfolding driver_word
word_none none h = refl
word_none (some d) h = absurd (omega arith)

pub word_some : (o : Option (ℕ × ℕ)) (x : ℕ) → Low o → x ≡ driver_word o → (x ≡ 0 → ⊥) → (1 ≤ x / 1024) × (o ≡ some (x / 1024 - 1, x % 1024))
unfolding driver_word
word_some none x h e q = absurd (q e)
word_some (some d) x h e q =
    let a : x / 1024 ≡ d.0 + 1 = omega arith in
    let b : d.0 ≡ x / 1024 - 1 = omega arith in
    let c : d.1 ≡ x % 1024 = omega arith in
    (omega arith, λ j. some (b j, c j))

-- ---- what drives lies inside the image ----

-- expression and bit of a driver are there; the bit is not above b
abbrev pub Inside : List ℕ → ℕ → Option (ℕ × ℕ) → Type 0
Inside s b none = Unit {0}
Inside s b (some d) = (d.0 < count_at_of s 1) × ((d.1 < expr_width s d.0) × (d.1 ≤ b))

-- assignment i drives bit b of signal p
abbrev pub covers : List ℕ → ℕ → ℕ → ℕ → Bool
covers s i p b = eqb (field s 3 i 0) p && leb (field s 3 i 1) b && ltb b (field s 3 i 1 + field s 3 i 2)

pub covered : (s : List ℕ) (i p b : ℕ) → covers s i p b ≡ true → (field s 3 i 0 ≡ p) × ((field s 3 i 1 ≤ b) × (b < field s 3 i 1 + field s 3 i 2))
covered s i p b e = go (eqb (field s 3 i 0) p) (leb (field s 3 i 1) b) refl refl e
  where
    go : (t v : Bool) → eqb (field s 3 i 0) p ≡ t → leb (field s 3 i 1) b ≡ v → (t && v && ltb b (field s 3 i 1 + field s 3 i 2)) ≡ true
        → (field s 3 i 0 ≡ p) × ((field s 3 i 1 ≤ b) × (b < field s 3 i 1 + field s 3 i 2))
    go true true q r x = (eqb-true _ _ q, (leb-true _ _ r, ltb-true _ _ x))
    go true false q r x = absurd (true≢false (sym x))
    go false v q r x = absurd (true≢false (sym x))

pub covers_yes : (s : List ℕ) (i p b : ℕ) → field s 3 i 0 ≡ p → field s 3 i 1 ≤ b → b < field s 3 i 1 + field s 3 i 2 → covers s i p b ≡ true
covers_yes s i p b e l u = rw (eq-eqb (field s 3 i 0) p e, le-leb (field s 3 i 1) b l, lt-ltb b (field s 3 i 1 + field s 3 i 2) u)

one_inside : (s : List ℕ) (p b i : ℕ) → Drives s i → (rest : R.Driver) (t : Bool) → covers s i p b ≡ t → Inside s b (expr_driver rest)
    → Inside s b (expr_driver (cond t (R.FromExpr (field s 3 i 3) (b - field s 3 i 1)) rest))
one_inside s p b i d rest true e ih =
    let c = covered s i p b e in
    (d.value, (omega (arith, c.1.0, c.1.1, d.width), omega arith))
one_inside s p b i d rest false e ih = ih

by_inside : (s : List ℕ) (p b i k : ℕ) → ((a : ℕ) → i ≤ a → a < i + k → Drives s a) → Inside s b (expr_driver (by_assign (each (assign_at s) i k) p b))
unfolding each assign_at
by_inside s p b i zero h = tt
by_inside s p b i (suc k) h =
    one_inside s p b i (h i (omega arith) (omega arith)) (by_assign (each (assign_at s) (suc i) k) p b) (covers s i p b) refl
    (by_inside s p b (suc i) k (λ a l u. h a (omega arith) (omega arith)))

pub driver_inside : (s : List ℕ) (p b : ℕ) → Sized s → Inside s b (driver_of (decode s) p b)
unfolding driver_of decode list_of
driver_inside s p b z = by_inside s p b 0 (count_at_of s 3) (λ a l u. z.drives a (omega arith))

pub inside_low : (s : List ℕ) (b : ℕ) (o : Option (ℕ × ℕ)) → Inside s b o → b < 1024 → Low o
inside_low s b none h u = tt
inside_low s b (some d) h u = omega (arith, h.1.1)
