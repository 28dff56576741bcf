-- Lists made by `list_of`: bounds of their elements, the elements from one on. Assumes nothing.
use Rattle.std.specs.Prelude.{◌≡◌, List, [], ◌∷◌, ℕ, zero, suc, ◌+◌, ◌-◌, ◌≤◌, ◌<◌, length, get_or}
use Rattle.std.proofs.Common.{ap, add-one, arith, not-suc-le-zero, le_of_suc-le-suc}
use Rattle.spec_tests.specs.Rules.{each, list_of}
use Rattle.word_laws.specs.Widths.{AllBelow}
use Rattle.scratch_view.specs.Rows.{length_list_of, at_list_of}

pub below_at : (x : ℕ) (l : List ℕ) (i d : ℕ) → AllBelow x l → i < length l → get_or l i d < x
below_at x [] i d b h = absurd (not-suc-le-zero h)
below_at x (y ∷ l) zero d b h = b.0
below_at x (y ∷ l) (suc i) d b h = below_at x l i d b.1 (le_of_suc-le-suc h)

-- each of the numbers of a list is below x
pub below_list_of : (x n : ℕ) (f : ℕ → ℕ) (i : ℕ) → AllBelow x (list_of n f) → i < n → f i < x
below_list_of x n f i b h =
    let g = below_at x (list_of n f) i 0 b (rw (length_list_of n f) h) in
    rw (at_list_of n f i 0 h) at g

-- ---- the elements from one on ----

abbrev pub onward : (ℕ → ℕ) → ℕ → ℕ → List ℕ
onward f n i = each f i (n - i)

pub onward_all : (f : ℕ → ℕ) (n : ℕ) → list_of n f ≡ onward f n 0
unfolding list_of
onward_all f n = ap (each f 0) (omega arith)

pub onward_cons : (f : ℕ → ℕ) (n i : ℕ) → i < n → onward f n i ≡ f i ∷ onward f n (i + 1)
unfolding each
onward_cons f n i h =
    let a : n - i ≡ suc (n - (i + 1)) = omega arith in
    rw (a, add-one i)

pub onward_none : (f : ℕ → ℕ) (n i : ℕ) → n ≤ i → onward f n i ≡ []
unfolding each
onward_none f n i h = let a : n - i ≡ 0 = omega arith in rw a
