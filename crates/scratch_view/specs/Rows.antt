-- Lists and rows that are given by a function of the index, and a flat column cut into rows by their widths. Assumes nothing.
use Rattle.std.specs.Prelude.{ℕ, zero, suc, ◌+◌, ◌-◌, ◌≤◌, ◌<◌, Bool, true, false, ◌⊎◌, ◌≡◌, refl, eqb, length, get_or, set, take, drop, replicate}
use mathlib.Core.List.{List, [], ◌∷◌, map}
use Rattle.std.proofs.Common.{⊎_elim, inl, inr, sym, ap, ◌∙◌, subst, add-zero, zero-add, eq-or-lt_of_le, arith, length-set, length-take, length-drop, ext_get_or, get_or-set_same, get_or-set_other, get_or-take, get_or-drop, eqb-true}
use Rattle.std.proofs.lemmas.List.{length-replicate, get_or-replicate}
use Rattle.std.proofs.lemmas.Bool.{eqb-false}
use Rattle.spec_tests.specs.Rules.{each, list_of, sum_to}
use Rattle.spec_model.specs.Lowering.{cell, put}

-- two numbers are equal or not
pub same_or : (i j : ℕ) → (i ≡ j) ⊎ (i ≡ j → ⊥)
same_or i j = go (eqb i j) refl
  where
    go : (t : Bool) → eqb i j ≡ t → (i ≡ j) ⊎ (i ≡ j → ⊥)
    go true e = inl (eqb-true i j e)
    go false e = inr (eqb-false i j e)

-- ---- lists by a function ----

pub length_each : {A : Type 0} (f : ℕ → A) (i n : ℕ) → length (each f i n) ≡ n
unfolding each
length_each f i zero = refl
length_each f i (suc n) = ap suc (length_each f (suc i) n)

pub each_at : {A : Type 0} (f : ℕ → A) (i n j : ℕ) (d : A) → j < n → get_or (each f i n) j d ≡ f (i + j)
unfolding each
each_at f i zero j d h = absurd (omega arith)
each_at f i (suc n) zero d h = ap f (sym (add-zero i))
each_at f i (suc n) (suc j) d h =
    let e : suc i + j ≡ i + suc j = omega arith in
    each_at f (suc i) n j d (omega arith) ∙ ap f e

pub length_list_of : {A : Type 0} (n : ℕ) (f : ℕ → A) → length (list_of n f) ≡ n
unfolding list_of
length_list_of n f = length_each f 0 n

pub at_list_of : {A : Type 0} (n : ℕ) (f : ℕ → A) (j : ℕ) (d : A) → j < n → get_or (list_of n f) j d ≡ f j
unfolding list_of
at_list_of n f j d h = each_at f 0 n j d h ∙ ap f (zero-add j)

pub each_agree : {A : Type 0} (f g : ℕ → A) (i n : ℕ) → ((j : ℕ) → i ≤ j → j < i + n → f j ≡ g j) → each f i n ≡ each g i n
unfolding each
each_agree f g i zero h = refl
each_agree f g i (suc n) h = λ k. h i (omega arith) (omega arith) k ∷ each_agree f g (suc i) n (λ j l u. h j (omega arith) (omega arith)) k

pub list_of_agree : {A : Type 0} (n : ℕ) (f g : ℕ → A) → ((j : ℕ) → j < n → f j ≡ g j) → list_of n f ≡ list_of n g
unfolding list_of
list_of_agree n f g h = each_agree f g 0 n (λ j l u. h j (omega arith))

-- a list that has the entries of a function
pub is_list_of : {A : Type 0} (d : A) (n : ℕ) (f : ℕ → A) (xs : List A) → length xs ≡ n → ((j : ℕ) → j < n → get_or xs j d ≡ f j) → xs ≡ list_of n f
is_list_of d n f xs l h =
    ext_get_or d xs (list_of n f) (l ∙ sym (length_list_of n f)) (λ j u.
    let v : j < n = omega arith in
    h j v ∙ sym (at_list_of n f j d v))

pub set_list_of : {A : Type 0} (n : ℕ) (f g : ℕ → A) (i : ℕ) (x : A) → g i ≡ x → ((j : ℕ) → j < n → (j ≡ i → ⊥) → g j ≡ f j)
    → set (list_of n f) i x ≡ list_of n g
set_list_of n f g i x e h =
    is_list_of x n g (set (list_of n f) i x) (length-set (list_of n f) i x ∙ length_list_of n f)
    (λ j u. ⊎_elim
    (λ (q : j ≡ i). subst (λ (k : ℕ). get_or (set (list_of n f) i x) k x ≡ g k) (sym q)
    (get_or-set_same (list_of n f) i x x (subst (λ (m : ℕ). i < m) (sym (length_list_of n f)) (omega arith)) ∙ sym e))
    (λ (q : j ≡ i → ⊥). get_or-set_other (list_of n f) i j x x q ∙ at_list_of n f j x u ∙ sym (h j u q))
    (same_or j i))

pub map_each : {A B : Type 0} (h : A → B) (f : ℕ → A) (i n : ℕ) → map h (each f i n) ≡ each (λ j. h (f j)) i n
unfolding each
map_each h f i zero = refl
map_each h f i (suc n) = ap (λ (xs : List _). h (f i) ∷ xs) (map_each h f (suc i) n)

pub map_list_of : {A B : Type 0} (h : A → B) (n : ℕ) (f : ℕ → A) → map h (list_of n f) ≡ list_of n (λ j. h (f j))
unfolding list_of
map_list_of h n f = map_each h f 0 n

pub replicate_list_of : {A : Type 0} (n : ℕ) (a : A) → replicate n a ≡ list_of n (λ j. a)
replicate_list_of n a = is_list_of a n (λ j. a) (replicate n a) (length-replicate n a) (λ j u. get_or-replicate n j a a u)

-- the w entries from lsb on
pub part_list_of : {A : Type 0} (d : A) (n : ℕ) (f : ℕ → A) (lsb w : ℕ) → lsb + w ≤ n → take w (drop lsb (list_of n f)) ≡ list_of w (λ j. f (lsb + j))
part_list_of d n f lsb w h =
    let len : length (drop lsb (list_of n f)) ≡ n - lsb = length-drop lsb (list_of n f) ∙ ap (λ (k : ℕ). k - lsb) (length_list_of n f) in
    is_list_of d w (λ j. f (lsb + j)) (take w (drop lsb (list_of n f)))
    (length-take w (drop lsb (list_of n f)) ∙ omega arith)
    (λ j u. get_or-take w (drop lsb (list_of n f)) j d u ∙ get_or-drop lsb (list_of n f) j d ∙ at_list_of n f (lsb + j) d (omega arith))

-- ---- sums ----

pub sum_suc : (f : ℕ → ℕ) (i : ℕ) → sum_to f (suc i) ≡ sum_to f i + f i
unfolding sum_to
sum_suc f i = refl

pub sum_agree : (f g : ℕ → ℕ) (n : ℕ) → ((j : ℕ) → j < n → f j ≡ g j) → sum_to f n ≡ sum_to g n
unfolding sum_to
sum_agree f g zero h = refl
sum_agree f g (suc n) h = omega (arith, sum_agree f g n (λ j u. h j (omega arith)), h n (omega arith))

-- a stretch ends before the next begins
pub stretch_before : (f : ℕ → ℕ) (i k : ℕ) → i < k → sum_to f i + f i ≤ sum_to f k
unfolding sum_to
stretch_before f i zero h = absurd (omega arith)
stretch_before f i (suc k) h =
    ⊎_elim (λ (q : i ≡ k). subst (λ (m : ℕ). sum_to f i + f i ≤ sum_to f m + f m) q (omega arith))
    (λ (q : i < k). omega (arith, stretch_before f i k q)) (eq-or-lt_of_le {n = i} {m = k} (omega arith))

pub stretch_apart : (f : ℕ → ℕ) (i j i' j' : ℕ) → j < f i → j' < f i' → (i' ≡ i → ⊥) → sum_to f i' + j' ≡ sum_to f i + j → ⊥
stretch_apart f i j i' j' h h' q e =
    ⊎_elim (λ (l : i ≤ i'). ⊎_elim (λ (z : i ≡ i'). q (sym z)) (λ (z : i < i'). absurd (omega (arith, stretch_before f i i' z))) (eq-or-lt_of_le l))
    (λ (l : i' < i). absurd (omega (arith, stretch_before f i' i l))) (le_or i i')
  where
    le_or : (a b : ℕ) → (a ≤ b) ⊎ (b < a)
    le_or zero b = inl (omega arith)
    le_or (suc a) zero = inr (omega arith)
    le_or (suc a) (suc b) = ⊎_elim (λ (x : a ≤ b). inl (omega arith)) (λ (x : b < a). inr (omega arith)) (le_or a b)

pub sum_most : (f : ℕ → ℕ) (n : ℕ) → ((j : ℕ) → j < n → 1 ≤ f j) → n ≤ sum_to f n
unfolding sum_to
sum_most f zero h = omega arith
sum_most f (suc n) h = omega (arith, sum_most f n (λ j u. h j (omega arith)), h n (omega arith))

-- one entry falls from 1 to 0
pub sum_falls : (f g : ℕ → ℕ) (n i : ℕ) → i < n → f i ≡ 1 → g i ≡ 0 → ((j : ℕ) → j < n → (j ≡ i → ⊥) → g j ≡ f j) → suc (sum_to g n) ≡ sum_to f n
unfolding sum_to
sum_falls f g zero i u p q h = absurd (omega arith)
sum_falls f g (suc n) i u p q h =
    ⊎_elim
    (λ (z : i ≡ n).
    let a : sum_to g n ≡ sum_to f n = sum_agree g f n (λ j v. h j (omega arith) (λ y. absurd (omega arith))) in
    let b : f n ≡ 1 = ap f (sym z) ∙ p in
    let c : g n ≡ 0 = ap g (sym z) ∙ q in
    omega arith)
    (λ (z : i < n).
    omega (arith, sum_falls f g n i z p q (λ j v y. h j (omega arith) y), h n (omega arith) (λ y. absurd (omega arith))))
    (eq-or-lt_of_le {n = i} {m = n} (omega arith))

-- ---- a column cut into rows ----

-- k rows; row i has f i entries, the next ones of the column g
unfoldable pub rows : {A : Type 0} → (ℕ → ℕ) → ℕ → (ℕ → A) → List (List A)
rows f k g = list_of k (λ i. list_of (f i) (λ j. g (sum_to f i + j)))

module _ {A : Type 0} (f : ℕ → ℕ) (k : ℕ) where
  pub row_at : (g : ℕ → A) (i : ℕ) → i < k → get_or (rows f k g) i [] ≡ list_of (f i) (λ j. g (sum_to f i + j))
  unfolding rows
  row_at g i h = at_list_of k (λ i. list_of (f i) (λ j. g (sum_to f i + j))) i [] h

  pub cell_rows : (g : ℕ → A) (d : A) (i j : ℕ) → i < k → j < f i → cell d (rows f k g) i j ≡ g (sum_to f i + j)
  cell_rows g d i j h u = ap (λ (r : List A). get_or r j d) (row_at g i h) ∙ at_list_of (f i) (λ j. g (sum_to f i + j)) j d u

  pub rows_agree : (g g' : ℕ → A) → ((m : ℕ) → m < sum_to f k → g m ≡ g' m) → rows f k g ≡ rows f k g'
  unfolding rows
  rows_agree g g' h =
      list_of_agree k (λ i. list_of (f i) (λ j. g (sum_to f i + j))) (λ i. list_of (f i) (λ j. g' (sum_to f i + j)))
      (λ i u. list_of_agree (f i) (λ j. g (sum_to f i + j)) (λ j. g' (sum_to f i + j)) (λ j v. h (sum_to f i + j) (omega (arith, stretch_before f i k u))))

  -- row i is another, the others stay
  pub set_rows : (g g' : ℕ → A) (i : ℕ) (row : List A) → row ≡ list_of (f i) (λ j. g' (sum_to f i + j))
      → ((i' j' : ℕ) → i' < k → (i' ≡ i → ⊥) → j' < f i' → g' (sum_to f i' + j') ≡ g (sum_to f i' + j')) → set (rows f k g) i row ≡ rows f k g'
  unfolding rows
  set_rows g g' i row e h =
      set_list_of k (λ i. list_of (f i) (λ j. g (sum_to f i + j))) (λ i. list_of (f i) (λ j. g' (sum_to f i + j))) i row (sym e)
      (λ i' u q. list_of_agree (f i') (λ j. g' (sum_to f i' + j)) (λ j. g (sum_to f i' + j)) (λ j' v. h i' j' u q v))

  pub put_rows : (g g' : ℕ → A) (i j : ℕ) (a : A) → i < k → j < f i → g' (sum_to f i + j) ≡ a
      → ((m : ℕ) → (m ≡ sum_to f i + j → ⊥) → g' m ≡ g m) → put (rows f k g) i j a ≡ rows f k g'
  put_rows g g' i j a h u e o =
      ap (λ (r : List A). set (rows f k g) i (set r j a)) (row_at g i h)
      ∙ set_rows g g' i (set (list_of (f i) (λ j. g (sum_to f i + j))) j a)
      (set_list_of (f i) (λ j. g (sum_to f i + j)) (λ j. g' (sum_to f i + j)) j a e (λ j' v q. o (sum_to f i + j') (λ z. q (omega arith))))
      (λ i' j' v q x. o (sum_to f i' + j') (stretch_apart f i j i' j' u x q))
