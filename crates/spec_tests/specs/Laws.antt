-- Laws of the tests, of `or`, `and`, `pick`, and of `first`, `any`, `sum_to`, as a search loop needs them.
--     or_hit, or_skip, or_no      a test of a chain holds; it fails and the rest answers; what a failed chain tells
--     from p n i                  `first` with the numbers below i passed over: a loop's invariant is  first p n ≡ from p n i
--     begins, passed, found, ended, any_yes, any_no      that invariant at the start, at a step and at both ways out
use Rattle.std.specs.Prelude.{ℕ, zero, suc, ◌+◌, ◌-◌, ◌≤◌, ◌<◌, Bool, true, false, not, ◌≡◌, refl, ◌⊎◌, ltb, eqb}
use Rattle.std.proofs.Common.{true≢false, sym, ap, ◌∙◌, subst, inl, inr, ⊎_elim, add-one, eq-or-lt_of_le, arith, lt-ltb, le-ltb, eq-eqb, ne_eqb, ltb-true, ltb-false, eqb-true}
use Rattle.std.proofs.Math.Option.{Option, none as nothing, some}
use Rattle.std.proofs.Math.Nat.{sub-zero, sub_self}
use Rattle.std.proofs.lemmas.Bool.{eqb-false}
use Rattle.spec_tests.specs.Rules.{◌<?◌, ◌≡?◌, ◌≢?◌, ◌or◌, ◌and◌, pick, outside, up_to, first, any, sum_to}

-- whether there is a value
abbrev pub is_some : {A : Type 0} → Option A → Bool
is_some nothing = false
is_some (some a) = true

-- ---- choice, or, and ----

pub pick_hit : {A : Type 0} {t : Bool} {a r : A} (b : A) → t ≡ true → r ≡ a → r ≡ pick t a b
unfolding pick
pick_hit b e q = rw e q

pub pick_skip : {A : Type 0} {t : Bool} {b r : A} (a : A) → t ≡ false → r ≡ b → r ≡ pick t a b
unfolding pick
pick_skip a e q = rw e q

pub or_hit : {a : Bool} (b : Bool) → a ≡ true → true ≡ (a or b)
unfolding ◌or◌
or_hit {a} b e = rw e

pub or_skip : {a b r : Bool} → a ≡ false → r ≡ b → r ≡ (a or b)
unfolding ◌or◌
or_skip {a} {b} {r} e q = rw e q

pub and_miss : {a : Bool} (b : Bool) → a ≡ false → false ≡ (a and b)
unfolding ◌and◌
and_miss {a} b e = rw e

pub and_skip : {a b r : Bool} → a ≡ true → r ≡ b → r ≡ (a and b)
unfolding ◌and◌
and_skip {a} {b} {r} e q = rw e q

-- a failed `or` is two failed tests, a passed `and` two passed ones
-- an `or` that holds is one of two tests that hold, and each of them is enough
pub or_yes : {a b : Bool} → (a or b) ≡ true → (a ≡ true) ⊎ (b ≡ true)
unfolding ◌or◌
or_yes {a = true} {b} e = inl refl
or_yes {a = false} {b} e = inr e

pub or_left : {a : Bool} (b : Bool) → a ≡ true → (a or b) ≡ true
or_left b e = sym (or_hit b e)

pub or_right : (a : Bool) {b : Bool} → b ≡ true → (a or b) ≡ true
unfolding ◌or◌
or_right true e = refl
or_right false e = e

pub or_no : {a b : Bool} → (a or b) ≡ false → (a ≡ false) × (b ≡ false)
unfolding ◌or◌
or_no {a = true} {b} e = absurd (true≢false e)
or_no {a = false} {b} e = (refl, e)

pub and_yes : {a b : Bool} → (a and b) ≡ true → (a ≡ true) × (b ≡ true)
unfolding ◌and◌
and_yes {a = true} {b} e = (refl, e)
and_yes {a = false} {b} e = absurd (true≢false (sym e))

pub not_is : {a b : Bool} → a ≡ not b → not a ≡ b
not_is {a} {b = true} e = rw e
not_is {a} {b = false} e = rw e

-- ---- tests on numbers ----

pub lt_yes : (a b : ℕ) → a < b → (a <? b) ≡ true
unfolding ◌<?◌
lt_yes a b h = lt-ltb a b h

pub lt_no : (a b : ℕ) → b ≤ a → (a <? b) ≡ false
unfolding ◌<?◌
lt_no a b h = le-ltb a b h

pub eq_yes : (a b : ℕ) → a ≡ b → (a ≡? b) ≡ true
unfolding ◌≡?◌
eq_yes a b h = eq-eqb a b h

pub eq_no : (a b : ℕ) → (a ≡ b → ⊥) → (a ≡? b) ≡ false
unfolding ◌≡?◌
eq_no a b h = ne_eqb a b h

pub ne_yes : (a b : ℕ) → (a ≡ b → ⊥) → (a ≢? b) ≡ true
unfolding ◌≢?◌
ne_yes a b h = ap not (ne_eqb a b h)

pub ne_no : (a b : ℕ) → a ≡ b → (a ≢? b) ≡ false
unfolding ◌≢?◌
ne_no a b h = ap not (eq-eqb a b h)

-- and back
pub yes_lt : (a b : ℕ) → (a <? b) ≡ true → a < b
unfolding ◌<?◌
yes_lt a b h = ltb-true a b h

pub no_lt : (a b : ℕ) → (a <? b) ≡ false → b ≤ a
unfolding ◌<?◌
no_lt a b h = ltb-false a b h

pub yes_eq : (a b : ℕ) → (a ≡? b) ≡ true → a ≡ b
unfolding ◌≡?◌
yes_eq a b h = eqb-true a b h

pub no_eq : (a b : ℕ) → (a ≡? b) ≡ false → a ≡ b → ⊥
unfolding ◌≡?◌
no_eq a b h = eqb-false a b h

pub no_ne : (a b : ℕ) → (a ≢? b) ≡ false → a ≡ b
unfolding ◌≢?◌
no_ne a b h = eqb-true a b (go (eqb a b) h)
  where
    go : (t : Bool) → not t ≡ false → t ≡ true
    go true e = refl
    go false e = absurd (true≢false e)

pub inside : (x lo hi : ℕ) → outside x lo hi ≡ false → (lo ≤ x) × (x ≤ hi)
unfolding outside
inside x lo hi e = (no_lt x lo (or_no e).0, no_lt hi x (or_no e).1)

-- a comparison that the code answers with, as a shut test on other names of its numbers
pub lt_same : {x x' y y' : ℕ} → x ≡ x' → y ≡ y' → ltb x y ≡ (x' <? y')
unfolding ◌<?◌
lt_same p q = rw (p, q)

pub eq_same : {x x' y y' : ℕ} → x ≡ x' → y ≡ y' → eqb x y ≡ (x' ≡? y')
unfolding ◌≡?◌
eq_same p q = rw (p, q)

pub ne_same : {x x' y y' : ℕ} → x ≡ x' → y ≡ y' → not (eqb x y) ≡ (x' ≢? y')
unfolding ◌≢?◌
ne_same p q = rw (p, q)

-- ---- the first number with a test ----

pub from : (ℕ → Bool) → ℕ → ℕ → ℕ
from p n i = up_to p i (n - i)

pub begins : (p : ℕ → Bool) (n : ℕ) → first p n ≡ from p n 0
unfolding first from
begins p n = ap (up_to p 0) (sym (sub-zero n))

one : (p : ℕ → Bool) (n i : ℕ) → i < n → from p n i ≡ pick (p i) i (from p n (i + 1))
unfolding from up_to pick
one p n i h =
    let e : n - i ≡ suc (n - suc i) = omega arith in
    rw (e, add-one)

pub here : (p : ℕ → Bool) (n i : ℕ) → i < n → p i ≡ true → from p n i ≡ i
unfolding pick
here p n i h e = one p n i h ∙ rw e

pub passed : (p : ℕ → Bool) (n i : ℕ) → i < n → p i ≡ false → from p n i ≡ from p n (i + 1)
unfolding pick
passed p n i h e = one p n i h ∙ rw e

pub past : (p : ℕ → Bool) (n : ℕ) → from p n n ≡ n
unfolding from up_to
past p n = rw (sub_self n)

-- the loop's two ways out, at its invariant
pub found : (p : ℕ → Bool) (n i : ℕ) → i < n → first p n ≡ from p n i → p i ≡ true → first p n ≡ i
found p n i h q e = q ∙ here p n i h e

pub ended : (p : ℕ → Bool) (n i : ℕ) → n ≤ i → i ≤ n → first p n ≡ from p n i → first p n ≡ n
ended p n i h l q =
    let e : i ≡ n = omega arith in
    q ∙ (ap (from p n) e ∙ past p n)

-- a search that finds nothing: no number below the count has the test
all_pass : (p : ℕ → Bool) (i k j : ℕ) → up_to p i k ≡ i + k → i ≤ j → j < i + k → p j ≡ false
unfolding up_to pick
all_pass p i zero j e l h = absurd (omega arith)
all_pass p i (suc k) j e l h = go (p i) refl e (all_pass p (suc i) k j)
  where
    go : (b : Bool) → p i ≡ b → pick b i (up_to p (suc i) k) ≡ i + suc k → (up_to p (suc i) k ≡ suc i + k → suc i ≤ j → j < suc i + k → p j ≡ false) → p j ≡ false
    go true q f ih = absurd (omega arith)
    go false q f ih = ⊎_elim (λ (s : i ≡ j). ap p (sym s) ∙ q) (λ (s : i < j). ih (f ∙ omega arith) s (omega arith)) (eq-or-lt_of_le l)

pub none : (p : ℕ → Bool) (n : ℕ) → first p n ≡ n → (j : ℕ) → j < n → p j ≡ false
unfolding first
none p n e j h = all_pass p 0 n j (e ∙ omega arith) (omega arith) (omega arith)

up_to_most : (p : ℕ → Bool) (i k : ℕ) → up_to p i k ≤ i + k
unfolding up_to pick
up_to_most p i zero = omega arith
up_to_most p i (suc k) = go (p i) (up_to_most p (suc i) k)
  where
    go : (b : Bool) → up_to p (suc i) k ≤ suc i + k → pick b i (up_to p (suc i) k) ≤ i + suc k
    go true ih = omega arith
    go false ih = omega arith

pub first_most : (p : ℕ → Bool) (n : ℕ) → first p n ≤ n
unfolding first
first_most p n = omega (arith, up_to_most p 0 n)

-- ---- any ----

pub any_yes : (p : ℕ → Bool) (n i : ℕ) → i < n → first p n ≡ from p n i → p i ≡ true → any p n ≡ true
unfolding any
any_yes p n i h q e = lt_yes _ _ (subst (λ (k : ℕ). k < n) (sym (q ∙ here p n i h e)) h)

pub any_no : (p : ℕ → Bool) (n i : ℕ) → n ≤ i → i ≤ n → first p n ≡ from p n i → any p n ≡ false
unfolding any
any_no p n i h l q =
    let e : i ≡ n = omega arith in
    let z : first p n ≡ n = q ∙ (ap (from p n) e ∙ past p n) in
    lt_no (first p n) n (omega arith)

pub not_any : (p : ℕ → Bool) (n : ℕ) → any p n ≡ false → (j : ℕ) → j < n → p j ≡ false
unfolding any
not_any p n e j h = none p n (omega (arith, no_lt (first p n) n e, first_most p n)) j h

-- ---- sums ----

pub sum_none : (f : ℕ → ℕ) → sum_to f 0 ≡ 0
unfolding sum_to
sum_none f = refl

pub sum_more : (f : ℕ → ℕ) (i : ℕ) → sum_to f (i + 1) ≡ sum_to f i + f i
unfolding sum_to
sum_more f i = rw add-one
