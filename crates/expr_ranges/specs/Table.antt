-- The table of ranges: eight words for each expression, of which a row writes words 2 to 6. Assumes nothing.
use Rattle.std.proofs.Math.Path.{◌≡◌}
use Rattle.std.specs.Prelude.{refl, Bool, true, false, cond, List, ℕ, zero, suc, ◌+◌, ◌*◌, ◌^◌, ◌/◌, ◌%◌, ◌≤◌, ◌<◌, max, ltb, length, set}
use Rattle.std.proofs.Common.{ap, ◌∙◌, not-suc-le-zero}
use Rattle.std.proofs.Math.Option.{Option, none, some}
use Rattle.std.proofs.Math.Decide.{ℕ_discrete}
use native.Mathlib.Omega.{arith}
use Rattle.std.proofs.Math.ListN.{get_or, length-set}
use Rattle.std.proofs.Math.Seq.{get_or-set_same, get_or-set_other}
use Rattle.spec_rtl.specs.Rtl.{Expr}
use Rattle.spec_model.specs.Ranges as model
use Rattle.expr_range_rows.specs.Rows.{narrow_word}

-- the range that the row of e holds
unfoldable pub range_in : List ℕ → ℕ → model.Range
range_in t e = record {
  lo = get_or t (e * 8 + 2) 0 + get_or t (e * 8 + 2 + 1) 0 * 4294967296;
  hi = get_or t (e * 8 + 2 + 2) 0 + get_or t (e * 8 + 2 + 3) 0 * 4294967296;
}

-- the table with the row of e: after its first words, and whole
abbrev one : List ℕ → ℕ → model.Range → List ℕ
one t e r = set t (e * 8 + 2) (r.lo % 4294967296)

abbrev two : List ℕ → ℕ → model.Range → List ℕ
two t e r = set (one t e r) (e * 8 + 2 + 1) (r.lo / 4294967296)

abbrev three : List ℕ → ℕ → model.Range → List ℕ
three t e r = set (two t e r) (e * 8 + 2 + 2) (r.hi % 4294967296)

abbrev four : List ℕ → ℕ → model.Range → List ℕ
four t e r = set (three t e r) (e * 8 + 2 + 3) (r.hi / 4294967296)

unfoldable pub put_row : List ℕ → ℕ → model.Range → ℕ → List ℕ
put_row t e r k =
    set (set (set (set (set t (e * 8 + 2) (r.lo % 4294967296)) (e * 8 + 2 + 1) (r.lo / 4294967296)) (e * 8 + 2 + 2) (r.hi % 4294967296)) (e * 8 + 2 + 3)
    (r.hi / 4294967296)) (e * 8 + 2 + 4) k

-- an expression wider than 64 bits has no range: its words are 0
abbrev pub range_or : Option model.Range → model.Range
range_or none = model.point 0
range_or (some r) = r

-- the rows of the first n expressions
unfoldable pub filled : List Expr → ℕ → List ℕ → List ℕ
filled xs zero t = t
filled xs (suc n) t = put_row (filled xs n t) n (range_or (model.range_at xs n)) (narrow_word (model.adder_width xs n))

pub length_put : (t : List ℕ) (e : ℕ) (r : model.Range) (k : ℕ) → length (put_row t e r k) ≡ length t
unfolding put_row
length_put t e r k = simp length-set

pub length_filled : (xs : List Expr) (n : ℕ) (t : List ℕ) → length (filled xs n t) ≡ length t
unfolding filled
length_filled xs zero t = refl
length_filled xs (suc n) t = length_put (filled xs n t) n (range_or (model.range_at xs n)) (narrow_word (model.adder_width xs n)) ∙ length_filled xs n t

-- a word that the row of e does not write
pub put_other : (t : List ℕ) (e : ℕ) (r : model.Range) (k m : ℕ) → ((i : ℕ) → i < 5 → m ≡ e * 8 + 2 + i → ⊥) → get_or (put_row t e r k) m 0 ≡ get_or t m 0
unfolding put_row
put_other t e r k m n =
    get_or-set_other (four t e r) (e * 8 + 2 + 4) m k 0 (n 4 (omega arith))
    ∙ get_or-set_other (three t e r) (e * 8 + 2 + 3) m (r.hi / 4294967296) 0 (n 3 (omega arith))
    ∙ get_or-set_other (two t e r) (e * 8 + 2 + 2) m (r.hi % 4294967296) 0 (n 2 (omega arith))
    ∙ get_or-set_other (one t e r) (e * 8 + 2 + 1) m (r.lo / 4294967296) 0 (n 1 (omega arith))
    ∙ get_or-set_other t (e * 8 + 2) m (r.lo % 4294967296) 0 (λ q. n 0 (omega arith) (omega arith))

module _ (t : List ℕ) (e : ℕ) (r : model.Range) (k : ℕ) (h : e * 8 + 8 ≤ length t) where
  pub put_width : get_or (put_row t e r k) (e * 8 + 2 + 4) 0 ≡ k
  unfolding put_row
  put_width = get_or-set_same (four t e r) (e * 8 + 2 + 4) k 0 (simp length-set (omega arith))

  pub put_range : r.lo < 2 ^ 64 → r.hi < 2 ^ 64 → range_in (put_row t e r k) e ≡ r
  unfolding put_row range_in
  put_range a b =
      let p₀ : get_or (put_row t e r k) (e * 8 + 2) 0 ≡ r.lo % 4294967296
      = get_or-set_other (four t e r) (e * 8 + 2 + 4) (e * 8 + 2) k 0 (omega arith) ∙ get_or-set_other (three t e r) (e * 8 + 2 + 3) (e * 8 + 2) (r.hi / 4294967296) 0 (omega arith)
      ∙ get_or-set_other (two t e r) (e * 8 + 2 + 2) (e * 8 + 2) (r.hi % 4294967296) 0 (omega arith) ∙ get_or-set_other (one t e r) (e * 8 + 2 + 1) (e * 8 + 2) (r.lo / 4294967296) 0 (omega arith)
      ∙ get_or-set_same t (e * 8 + 2) (r.lo % 4294967296) 0 (omega arith) in
      let p₁ : get_or (put_row t e r k) (e * 8 + 2 + 1) 0 ≡ r.lo / 4294967296
      = get_or-set_other (four t e r) (e * 8 + 2 + 4) (e * 8 + 2 + 1) k 0 (omega arith) ∙ get_or-set_other (three t e r) (e * 8 + 2 + 3) (e * 8 + 2 + 1) (r.hi / 4294967296) 0 (omega arith)
      ∙ get_or-set_other (two t e r) (e * 8 + 2 + 2) (e * 8 + 2 + 1) (r.hi % 4294967296) 0 (omega arith)
      ∙ get_or-set_same (one t e r) (e * 8 + 2 + 1) (r.lo / 4294967296) 0 (simp length-set (omega arith)) in
      let p₂ : get_or (put_row t e r k) (e * 8 + 2 + 2) 0 ≡ r.hi % 4294967296
      = get_or-set_other (four t e r) (e * 8 + 2 + 4) (e * 8 + 2 + 2) k 0 (omega arith) ∙ get_or-set_other (three t e r) (e * 8 + 2 + 3) (e * 8 + 2 + 2) (r.hi / 4294967296) 0 (omega arith)
      ∙ get_or-set_same (two t e r) (e * 8 + 2 + 2) (r.hi % 4294967296) 0 (simp length-set (omega arith)) in
      let p₃ : get_or (put_row t e r k) (e * 8 + 2 + 3) 0 ≡ r.hi / 4294967296
      = get_or-set_other (four t e r) (e * 8 + 2 + 4) (e * 8 + 2 + 3) k 0 (omega arith) ∙ get_or-set_same (three t e r) (e * 8 + 2 + 3) (r.hi / 4294967296) 0 (simp length-set (omega arith)) in
      whole (p₀, p₁, p₂, p₃)
    where
      whole : {a b c d : ℕ} → (a ≡ r.lo % 4294967296) × (b ≡ r.lo / 4294967296) × (c ≡ r.hi % 4294967296) × (d ≡ r.hi / 4294967296)
          → ◌≡◌ {A = model.Range} (record { lo = a + b * 4294967296; hi = c + d * 4294967296 }) r
      whole (p₀, p₁, p₂, p₃) =
          let x : r.lo % 4294967296 + r.lo / 4294967296 * 4294967296 ≡ r.lo = omega arith in
          let y : r.hi % 4294967296 + r.hi / 4294967296 * 4294967296 ≡ r.hi = omega arith in
          rw (p₀, p₁, p₂, p₃, x, y)

pub put_range_other : (t : List ℕ) (e : ℕ) (r : model.Range) (k j : ℕ) → (j ≡ e → ⊥) → range_in (put_row t e r k) j ≡ range_in t j
unfolding range_in
put_range_other t e r k j n =
    rw (
      put_other t e r k (j * 8 + 2) (λ i l q. n (omega arith)),
      put_other t e r k (j * 8 + 2 + 1) (λ i l q. n (omega arith)),
      put_other t e r k (j * 8 + 2 + 2) (λ i l q. n (omega arith)),
      put_other t e r k (j * 8 + 2 + 3) (λ i l q. n (omega arith)),
    )

-- ---- the table of the first n rows ----

-- both ends of an expression's range fit two words
abbrev pub Bounded : List Expr → ℕ → Type 0
Bounded xs j = ((range_or (model.range_at xs j)).lo < 2 ^ 64) × ((range_or (model.range_at xs j)).hi < 2 ^ 64)

pub filled_range : (xs : List Expr) (n : ℕ) (t : List ℕ) → ((j : ℕ) → j < n → Bounded xs j) → n * 8 ≤ length t → (j : ℕ) → j < n
    → range_in (filled xs n t) j ≡ range_or (model.range_at xs j)
unfolding filled
filled_range xs zero t b h j l = absurd (not-suc-le-zero l)
filled_range xs (suc n) t b h j l = elim (ℕ_discrete j n) [
  | yes e ↦ rw e (put_range (filled xs n t) n (range_or (model.range_at xs n)) (narrow_word (model.adder_width xs n)) (rw (length_filled xs n t) (omega arith)) (b n (omega arith)).0 (b n (omega arith)).1)
  | no d ↦ put_range_other (filled xs n t) n (range_or (model.range_at xs n)) (narrow_word (model.adder_width xs n)) j d
      ∙ filled_range xs n t (λ i k. b i (omega arith)) (omega arith) j (omega arith)
]

word_six : (n : ℕ) → n * 8 + 6 ≡ n * 8 + 2 + 4
word_six n = omega arith

-- word 6 of a row is the width that the Add is narrowed to, 0 for none
pub filled_width : (xs : List Expr) (n : ℕ) (t : List ℕ) → n * 8 ≤ length t → (j : ℕ) → j < n → get_or (filled xs n t) (j * 8 + 6) 0 ≡ narrow_word (model.adder_width xs j)
unfolding filled
filled_width xs zero t h j l = absurd (not-suc-le-zero l)
filled_width xs (suc n) t h j l = elim (ℕ_discrete j n) [
  | yes e ↦ rw (e, word_six n) (put_width (filled xs n t) n (range_or (model.range_at xs n)) (narrow_word (model.adder_width xs n)) (rw (length_filled xs n t) (omega arith)))
  | no d ↦ put_other (filled xs n t) n (range_or (model.range_at xs n)) (narrow_word (model.adder_width xs n)) (j * 8 + 6) (λ i k q. d (omega arith))
      ∙ filled_width xs n t (omega arith) j (omega arith)
]

-- words 0, 1 and 7 of a row, and what lies past the rows, stay
pub filled_kept : (xs : List Expr) (n : ℕ) (t : List ℕ) (m : ℕ) → ((e i : ℕ) → e < n → i < 5 → m ≡ e * 8 + 2 + i → ⊥) → get_or (filled xs n t) m 0 ≡ get_or t m 0
unfolding filled
filled_kept xs zero t m k = refl
filled_kept xs (suc n) t m k =
    put_other (filled xs n t) n (range_or (model.range_at xs n)) (narrow_word (model.adder_width xs n)) m (λ i l q. k n i (omega arith) l q)
    ∙ filled_kept xs n t m (λ e i l. k e i (omega arith))

-- the width back from its word
abbrev pub narrow_of : ℕ → Option ℕ
narrow_of zero = none
narrow_of (suc k) = some (suc k)

pub narrow_back : (w : ℕ) (o : Option model.Range) → narrow_of (narrow_word (model.narrow_by w o)) ≡ model.narrow_by w o
narrow_back w none = refl
narrow_back w (some r) = go (max 1 (model.bit_len 64 r.hi)) (ltb (max 1 (model.bit_len 64 r.hi)) w) (omega arith)
  where
    go : (k : ℕ) (b : Bool) → 1 ≤ k → narrow_of (narrow_word (cond b (some k) none)) ≡ cond b (some k) none
    go zero b h = absurd (not-suc-le-zero h)
    go (suc k) true h = refl
    go (suc k) false h = refl

-- what the table says of an Add is the model's `adder_widths`
pub filled_narrow : (xs : List Expr) (n : ℕ) (t : List ℕ) → n * 8 ≤ length t → (j : ℕ) → j < n → narrow_of (get_or (filled xs n t) (j * 8 + 6) 0) ≡ model.adder_width xs j
unfolding model.adder_width
filled_narrow xs n t h j l = ap narrow_of (filled_width xs n t h j l) ∙ narrow_back (model.width_at xs j) (model.range_at xs j)
