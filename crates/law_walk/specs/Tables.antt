-- Tables of rows: one cell or a stretch of a row written, how many cells are filled, what a row's known cells say of a word. Assumes nothing.
use Rattle.std.specs.Prelude.{◌≡◌, refl, ◌⊎◌, Bool, true, List, [], ◌∷◌, map, ℕ, zero, suc, ◌+◌, ◌≤◌, ◌<◌, length, get_or, take, drop, set}
use Rattle.std.proofs.Common.{sym, ap, ◌∙◌, inl, inr, not-suc-le-zero, le_of_suc-le-suc, arith, length-set, get_or-set_same, get_or-set_other}
use Rattle.std.proofs.Math.Option.{Option, none, some}
use Rattle.std.proofs.Math.Decide.{ℕ_discrete, dec_lt}
use Rattle.std.proofs.Math.ListN.{get_elem?}
use Rattle.std.proofs.lemmas.List.Edits.{sets}
use Rattle.std.proofs.Math.Seq.{set_out}
use Rattle.spec_rtl.specs.Rtl.{Sig}
use Rattle.spec_rules.specs.Step.{bit_count}
use Rattle.spec_model.specs.Lowering.{cell, put, net_of, all_some}
use Rattle.word_laws.specs.Widths.{AllBelow}

pub none_some : {A : Type 0} {a : A} → ◌≡◌ {A = Option A} none (some a) → ⊥
none_some p = let z : ◌≡◌ {A = ℕ} 0 1 = cc in omega arith

pub some_eq : {A : Type 0} {a b : A} → ◌≡◌ {A = Option A} (some a) (some b) → a ≡ b
some_eq p = cc

-- something is there
pub record Has {A : Type 0} (o : Option A) : Type 0 where
  pub value : A
  pub is : o ≡ some value

pub has_some : {A : Type 0} (a : A) → Has (some a)
has_some a = record { value = a; is = refl }

pub has_none : {A : Type 0} → Has {A = A} none → ⊥
has_none h = none_some h.is

-- ---- a table's shape ----

pub record Shaped {A : Type 0} (n : ℕ) (wide : ℕ → ℕ) (t : List (List A)) : Type 0 where
  pub rows : length t ≡ n
  pub cells : (i : ℕ) → i < n → length (get_or t i []) ≡ wide i

-- cells alike or not
pub same_cell : (p q i j : ℕ) → ((p ≡ i) × (q ≡ j)) ⊎ ((p ≡ i) × (q ≡ j) → ⊥)
same_cell p q i j = elim (ℕ_discrete p i) [
  | yes e ↦ elim (ℕ_discrete q j) [ yes f ↦ inl (e, f) | no g ↦ inr (λ x. g x.1) ]
  | no g ↦ inr (λ x. g x.0)
]

module _ {A : Type 0} where
  pub row_set_length : (t : List (List A)) (i : ℕ) (r : List A) → length r ≡ length (get_or t i []) → (p : ℕ) → length (get_or (set t i r) p []) ≡ length (get_or t p [])
  row_set_length [] i r e p = refl
  row_set_length (x ∷ t) zero r e zero = e
  row_set_length (x ∷ t) zero r e (suc p) = refl
  row_set_length (x ∷ t) (suc i) r e zero = refl
  row_set_length (x ∷ t) (suc i) r e (suc p) = row_set_length t i r e p

  pub put_shaped : {n : ℕ} {wide : ℕ → ℕ} (t : List (List A)) (i j : ℕ) (a : A) → Shaped n wide t → Shaped n wide (put t i j a)
  put_shaped t i j a s = record {
    rows = length-set t i _ ∙ s.rows;
    cells = λ p h. row_set_length t i (set (get_or t i []) j a) (length-set (get_or t i []) j a) p ∙ s.cells p h;
  }

  pub put_same : (d : A) (t : List (List A)) (i j : ℕ) (a : A) → i < length t → j < length (get_or t i []) → cell d (put t i j a) i j ≡ a
  put_same d t i j a h k = rw (get_or-set_same t i (set (get_or t i []) j a) [] h) (get_or-set_same (get_or t i []) j a d k)

  put_row_law : (d : A) (t : List (List A)) (i j : ℕ) (a : A) (q : ℕ) → (q ≡ j → ⊥) → cell d (put t i j a) i q ≡ cell d t i q
  put_row_law d [] i j a q g = refl
  put_row_law d (x ∷ t) zero j a q g = get_or-set_other x j q a d g
  put_row_law d (x ∷ t) (suc i) j a q g = put_row_law d t i j a q g

  pub put_other : (d : A) (t : List (List A)) (i j : ℕ) (a : A) (p q : ℕ) → ((p ≡ i) × (q ≡ j) → ⊥) → cell d (put t i j a) p q ≡ cell d t p q
  put_other d t i j a p q g = elim (ℕ_discrete p i) [
    | yes e ↦ rw e (put_row_law d t i j a q (λ f. g (e, f)))
    | no f ↦ ap (λ (r : List A). get_or r q d) (get_or-set_other t i p (set (get_or t i []) j a) [] f)
  ]

-- ---- filled cells ----

abbrev pub filled1 : Option ℕ → ℕ
filled1 none = 0
filled1 (some n) = 1

abbrev pub filled_row : List (Option ℕ) → ℕ
filled_row [] = 0
filled_row (o ∷ r) = filled1 o + filled_row r

abbrev pub filled : List (List (Option ℕ)) → ℕ
filled [] = 0
filled (r ∷ t) = filled_row r + filled t

filled1_le : (o : Option ℕ) → filled1 o ≤ 1
filled1_le none = omega arith
filled1_le (some n) = omega arith

row_le : (r : List (Option ℕ)) → filled_row r ≤ length r
row_le [] = omega arith
row_le (o ∷ r) = omega (arith, row_le r, filled1_le o)

pub filled_le : (ss : List Sig) (d : Sig) (t : List (List (Option ℕ))) → length t ≡ length ss
    → ((i : ℕ) → i < length ss → length (get_or t i []) ≡ (get_or ss i d).width) → filled t ≤ bit_count ss
filled_le [] d [] l h = omega arith
filled_le [] d (r ∷ t) l h = absurd (omega arith)
filled_le (s ∷ ss) d [] l h = absurd (omega arith)
filled_le (s ∷ ss) d (r ∷ t) l h = omega (arith, row_le r, h 0 (omega arith), filled_le ss d t (omega arith) (λ i k. h (suc i) (omega arith)))

row_put : (r : List (Option ℕ)) (j n : ℕ) → j < length r → get_or r j none ≡ none → filled_row (set r j (some n)) ≡ suc (filled_row r)
row_put [] j n h e = absurd (not-suc-le-zero h)
row_put (none ∷ r) zero n h e = omega arith
row_put (some x ∷ r) zero n h e = absurd (none_some (sym e))
row_put (o ∷ r) (suc j) n h e = omega (arith, row_put r j n (le_of_suc-le-suc h) e)

pub filled_put : (t : List (List (Option ℕ))) (i j n : ℕ) → i < length t → j < length (get_or t i []) → cell none t i j ≡ none
    → filled (put t i j (some n)) ≡ suc (filled t)
filled_put [] i j n h k e = absurd (not-suc-le-zero h)
filled_put (r ∷ t) zero j n h k e = omega (arith, row_put r j n k e)
filled_put (r ∷ t) (suc i) j n h k e = omega (arith, filled_put t i j n (le_of_suc-le-suc h) k e)

-- ---- a row of nets and a word ----

-- the row's known cells have the word's bits
pub record Fits (g : ℕ → Bool) (row : List (Option ℕ)) (w : List Bool) : Type 0 where
  pub fits : (b n : ℕ) → get_or row b none ≡ some n → get_elem? w b ≡ some (g n)

-- the cells from lsb on, w of them, are known
pub record Known (row : List (Option ℕ)) (lsb w : ℕ) : Type 0 where
  pub known : (b : ℕ) → lsb ≤ b → b < lsb + w → Has (get_or row b none)

pub known_tail : {o : Option ℕ} {row : List (Option ℕ)} {lsb w : ℕ} → Known (o ∷ row) (suc lsb) w → Known row lsb w
known_tail k = record { known = λ b h l. k.known (suc b) (omega arith) (omega arith) }

pub known_next : {o : Option ℕ} {row : List (Option ℕ)} {w : ℕ} → Known (o ∷ row) 0 (suc w) → Known row 0 w
known_next k = record { known = λ b h l. k.known (suc b) (omega arith) (omega arith) }

fits_tail : {g : ℕ → Bool} {o : Option ℕ} {row : List (Option ℕ)} {x : Bool} {w : List Bool} → Fits g (o ∷ row) (x ∷ w) → Fits g row w
fits_tail f = record { fits = λ b n e. f.fits (suc b) n e }

pub row_slice : (g : ℕ → Bool) (row : List (Option ℕ)) (word : List Bool) → length row ≡ length word → (lsb w : ℕ) → lsb + w ≤ length row → Known row lsb w
    → Fits g row word → map g (map net_of (take w (drop lsb row))) ≡ take w (drop lsb word)
row_slice g row word l zero zero h k f = refl
row_slice g [] [] l (suc lsb) w h k f = absurd (omega arith)
row_slice g [] (x ∷ word) l (suc lsb) w h k f = absurd (omega arith)
row_slice g (o ∷ row) [] l (suc lsb) w h k f = absurd (omega arith)
row_slice g (o ∷ row) (x ∷ word) l (suc lsb) w h k f = row_slice g row word (omega arith) lsb w (omega arith) (known_tail k) (fits_tail f)
row_slice g [] word l zero (suc w) h k f = absurd (omega arith)
row_slice g (o ∷ row) [] l zero (suc w) h k f = absurd (omega arith)
row_slice g (none ∷ row) (x ∷ word) l zero (suc w) h k f = absurd (has_none (k.known 0 (omega arith) (omega arith)))
row_slice g (some n ∷ row) (x ∷ word) l zero (suc w) h k f =
    let e : x ≡ g n = some_eq (f.fits 0 n refl) in
    rw (e, row_slice g row word (omega arith) 0 w (omega arith) (known_next k) (fits_tail f))

pub row_below : (m : ℕ) (row : List (Option ℕ)) (lsb w : ℕ) → lsb + w ≤ length row → Known row lsb w → ((b n : ℕ) → get_or row b none ≡ some n → n < m)
    → AllBelow m (map net_of (take w (drop lsb row)))
row_below m row zero zero h k f = tt
row_below m [] (suc lsb) w h k f = absurd (omega arith)
row_below m (o ∷ row) (suc lsb) w h k f = row_below m row lsb w (omega arith) (known_tail k) (λ b n e. f (suc b) n e)
row_below m [] zero (suc w) h k f = absurd (omega arith)
row_below m (none ∷ row) zero (suc w) h k f = absurd (has_none (k.known 0 (omega arith) (omega arith)))
row_below m (some n ∷ row) zero (suc w) h k f = (f 0 n refl, row_below m row 0 w (omega arith) (known_next k) (λ b n e. f (suc b) n e))

-- `all_some` of the stretch
pub all_known : (row : List (Option ℕ)) (lsb w : ℕ) → lsb + w ≤ length row → all_some (take w (drop lsb row)) ≡ true → Known row lsb w
all_known row zero zero h e = record { known = λ b x y. absurd (omega arith) }
all_known [] (suc lsb) w h e = absurd (omega arith)
all_known (o ∷ row) (suc lsb) w h e = let k = all_known row lsb w (omega arith) e in record { known = go k }
  where
    go : Known row lsb w → (b : ℕ) → suc lsb ≤ b → b < suc lsb + w → Has (get_or (o ∷ row) b none)
    go k zero x y = absurd (omega arith)
    go k (suc b) x y = k.known b (omega arith) (omega arith)
all_known [] zero (suc w) h e = absurd (omega arith)
all_known (none ∷ row) zero (suc w) h e = let z : ◌≡◌ {A = ℕ} 0 1 = cc in absurd (omega arith)
all_known (some n ∷ row) zero (suc w) h e = let k = all_known row 0 w (omega arith) e in record { known = go k }
  where
    go : Known row 0 w → (b : ℕ) → 0 ≤ b → b < 0 + suc w → Has (get_or (some n ∷ row) b none)
    go k zero x y = has_some n
    go k (suc b) x y = k.known b (omega arith) (omega arith)

-- ---- a stretch written ----

pub has_set : (row : List (Option ℕ)) (i n b : ℕ) → Has (get_or row b none) → Has (get_or (set row i (some n)) b none)
has_set [] i n b h = h
has_set (o ∷ row) zero n zero h = has_some n
has_set (o ∷ row) zero n (suc b) h = h
has_set (o ∷ row) (suc i) n zero h = h
has_set (o ∷ row) (suc i) n (suc b) h = has_set row i n b h

pub has_sets : (ns : List ℕ) (row : List (Option ℕ)) (i b : ℕ) → Has (get_or row b none) → Has (get_or (sets row i (map some ns)) b none)
has_sets [] row i b h = h
has_sets (n ∷ ns) row i b h = has_sets ns (set row i (some n)) (suc i) b (has_set row i n b h)

pub known_sets : (ns : List ℕ) (row : List (Option ℕ)) (i : ℕ) → i + length ns ≤ length row → Known (sets row i (map some ns)) i (length ns)
known_sets [] row i h = record { known = λ b x y. absurd (omega arith) }
known_sets (n ∷ ns) row i h =
    let r = known_sets ns (set row i (some n)) (suc i) (rw (length-set row i (some n)) (omega arith)) in
    record { known = λ b x y. go r b x y (ℕ_discrete b i) }
  where
    go : Known (sets (set row i (some n)) (suc i) (map some ns)) (suc i) (length ns) → (b : ℕ) → i ≤ b → b < i + suc (length ns) → Dec (b ≡ i)
        → Has (get_or (sets (set row i (some n)) (suc i) (map some ns)) b none)
    go r b x y (yes e) = has_sets ns (set row i (some n)) (suc i) b (record { value = n; is = rw e (get_or-set_same row i (some n) none (omega arith)) })
    go r b x y (no g) = r.known b (omega arith) (omega arith)

pub fits_set : (g : ℕ → Bool) (row : List (Option ℕ)) (w : List Bool) (i n : ℕ) → Fits g row w → get_elem? w i ≡ some (g n) → Fits g (set row i (some n)) w
fits_set g row w i n f e = record { fits = λ b k q. go b k q (ℕ_discrete b i) (decide i) }
  where
    decide : (i : ℕ) → (i < length row) ⊎ (length row ≤ i)
    decide i = elim (dec_lt i (length row)) [ yes h ↦ inl h | no h ↦ inr (omega arith) ]

    go : (b k : ℕ) → get_or (set row i (some n)) b none ≡ some k → Dec (b ≡ i) → (i < length row) ⊎ (length row ≤ i) → get_elem? w b ≡ some (g k)
    go b k q (yes p) (inl h) =
        let r : n ≡ k = some_eq (sym (get_or-set_same row i (some n) none h) ∙ ap (λ (x : ℕ). get_or (set row i (some n)) x none) (sym p) ∙ q) in
        rw (p, ← r) e
    go b k q (yes p) (inr h) = f.fits b k (rw (set_out row i (some n) h) at q)
    go b k q (no p) d = f.fits b k (sym (get_or-set_other row i b (some n) none p) ∙ q)

head_at : (w : List Bool) (i k : ℕ) (x : Bool) (xs : List Bool) → take (suc k) (drop i w) ≡ x ∷ xs → get_elem? w i ≡ some x
head_at [] zero k x xs e = let z : ◌≡◌ {A = ℕ} 0 1 = cc in absurd (omega arith)
head_at (y ∷ w) zero k x xs e = ap some (cc)
head_at [] (suc i) k x xs e = let z : ◌≡◌ {A = ℕ} 0 1 = cc in absurd (omega arith)
head_at (y ∷ w) (suc i) k x xs e = head_at w i k x xs e

tail_at : (w : List Bool) (i k : ℕ) (x : Bool) (xs : List Bool) → take (suc k) (drop i w) ≡ x ∷ xs → take k (drop (suc i) w) ≡ xs
tail_at [] zero k x xs e = let z : ◌≡◌ {A = ℕ} 0 1 = cc in absurd (omega arith)
tail_at (y ∷ w) zero k x xs e = cc
tail_at [] (suc i) k x xs e = let z : ◌≡◌ {A = ℕ} 0 1 = cc in absurd (omega arith)
tail_at (y ∷ w) (suc i) k x xs e = tail_at w i k x xs e

pub fits_sets : (g : ℕ → Bool) (ns : List ℕ) (row : List (Option ℕ)) (w : List Bool) (i : ℕ) → Fits g row w → take (length ns) (drop i w) ≡ map g ns
    → Fits g (sets row i (map some ns)) w
fits_sets g [] row w i f e = f
fits_sets g (n ∷ ns) row w i f e =
    fits_sets g ns (set row i (some n)) w (suc i) (fits_set g row w i n f (head_at w i (length ns) (g n) (map g ns) e)) (tail_at w i (length ns) (g n) (map g ns) e)

pub below_set : (m : ℕ) (row : List (Option ℕ)) (i n : ℕ) → n < m → ((b k : ℕ) → get_or row b none ≡ some k → k < m) → (b k : ℕ) → get_or (set row i (some n)) b none ≡ some k → k < m
below_set m [] i n h f b k e = f b k e
below_set m (o ∷ row) zero n h f zero k e = rw (some_eq e) at h
below_set m (o ∷ row) zero n h f (suc b) k e = f (suc b) k e
below_set m (o ∷ row) (suc i) n h f zero k e = f 0 k e
below_set m (o ∷ row) (suc i) n h f (suc b) k e = below_set m row i n h (λ b k e. f (suc b) k e) b k e

pub below_sets : (m : ℕ) (ns : List ℕ) (row : List (Option ℕ)) (i : ℕ) → AllBelow m ns → ((b k : ℕ) → get_or row b none ≡ some k → k < m)
    → (b k : ℕ) → get_or (sets row i (map some ns)) b none ≡ some k → k < m
below_sets m [] row i h f b k e = f b k e
below_sets m (n ∷ ns) row i h f b k e = below_sets m ns (set row i (some n)) (suc i) h.1 (below_set m row i n h.0 f) b k e
