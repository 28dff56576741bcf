-- The range that a value stands for, and the laws of the rows. Assumes nothing.
use Rattle.std.specs.Prelude.{◌≡◌, ℕ, zero, suc, ◌+◌, ◌-◌, ◌*◌, ◌/◌, ◌%◌, ◌^◌, ◌<◌, ◌≤◌, min, max, true, false, ◌&&◌, ◌==◌, ◌≢◌, nat_le, nat_lt, refl}
use Rattle.std.specs.Prelude as code
use Rattle.std.specs.Prelude.{Some, None}
use Rattle.std.proofs.Common.{sym, ap, ◌∙◌, arith, leb→le, le→leb, lt→ltb}
use Rattle.std.proofs.Math.Option.{Option, none, some}
use Rattle.std.proofs.Math.Nat.{mod-add-mod, add-mod_right, pow-succ'}
use Rattle.std.proofs.Math.Dec.{eqb_refl}
use Rattle.std.proofs.Math.Arith.{lt→nleb, le→nltb}
use Rattle.std.proofs.Math.Pow.{ones_split, ones_lt, high}
use Rattle.std.specs.Int.Count.{count_leading_zeros, leading_unique}
use Rattle.spec_model.specs.Ranges as model
use Rattle.spec_model.specs.Ranges.{single, is_point, add_range, sub_range, mux_range, slice_range_of}
use Rattle.word_laws.specs.Shift.{T_true, T_false}
use Rattle.word_laws.specs.Tree.{test_iff, eqb_no}
use Rattle.word_ranges.specs.Rows.{bit_len_fits}
use Rattle.expr_range_rows.specs.declared.Range.{Range}

abbrev pub shown : Range → model.Range
shown r = record { lo = r.min; hi = r.max }

abbrev pub known : code.Option Range → Option model.Range
known (Some r) = some (shown r)
known None = none

pub record Held (l r : Range) (width : ℕ) : Type 0 where
  pub least : 1 ≤ width
  pub most : width ≤ 64
  pub left : l.min ≤ l.max
  pub right : r.min ≤ r.max

abbrev pub and_range : model.Range → model.Range → model.Range
and_range l r = record { lo = 0; hi = min l.hi r.hi }

-- one part more of a Concat
abbrev pub join_of : model.Range → ℕ → model.Range → model.Range
join_of acc w r = record { lo = acc.lo * 2 ^ w + r.lo; hi = acc.hi * 2 ^ w + r.hi }

pub record Joins (acc part : Range) (width : ℕ) : Type 0 where
  pub most : width ≤ 64
  pub lower : acc.min * 2 ^ width + part.min < 2 ^ 64
  pub upper : acc.max * 2 ^ width + part.max < 2 ^ 64

-- the word that stands for the width of a narrowed Add, and back: 0 for none
abbrev pub narrow_word : Option ℕ → ℕ
narrow_word none = 0
narrow_word (some k) = k

pub mask_law : (w : ℕ) → w ≤ 64 → 18446744073709551615 / 2 ^ (64 - w) ≡ 2 ^ w - 1
mask_law w h =
    let e : w + (64 - w) ≡ 64 = omega arith in
    let q : 2 ^ 64 - 1 ≡ (2 ^ w - 1) * 2 ^ (64 - w) + (2 ^ (64 - w) - 1) = rw e at (ones_split w (64 - w)) in
    ap (λ (x : ℕ). x / 2 ^ (64 - w)) q ∙ high (2 ^ w - 1) (64 - w) (ones_lt (64 - w))

-- a wrapped difference, whose sum with b is a
pub difference_law : (x a b w : ℕ) → b < 2 ^ 64 → x < 2 ^ 64 → (x + b) % 2 ^ 64 ≡ a → x % 2 ^ w ≡ (a + (2 ^ 64 - b)) % 2 ^ 64 % 2 ^ w
difference_law x a b w hb hx e =
    let s : x + b + (2 ^ 64 - b) ≡ x + 2 ^ 64 = omega arith in
    let q : (a + (2 ^ 64 - b)) % 2 ^ 64 ≡ x % 2 ^ 64 =
    ap (λ (k : ℕ). (k + (2 ^ 64 - b)) % 2 ^ 64) (sym e) ∙ (mod-add-mod (x + b) (2 ^ 64) (2 ^ 64 - b) ∙ (ap (λ (k : ℕ). k % 2 ^ 64) s ∙ add-mod_right x (2 ^ 64))) in
    let r : x % 2 ^ 64 ≡ x = omega arith in
    rw (q, r)

-- ---- a test on two ranges: the first failed, or passed and the second decides ----

pub both_second : (l r : model.Range) → l.lo ≡ l.hi → (r.lo == r.hi) ≡ (single l && single r)
both_second l r e = rw (T_true (single l) (rw e (eqb_refl l.hi)))

pub both_miss : (l r : model.Range) → (l.lo ≢ l.hi) → false ≡ (single l && single r)
both_miss l r n = rw (← eqb_no l.lo l.hi n)

pub point_second : (k : ℕ) (r : model.Range) → r.lo ≡ k → (r.hi == k) ≡ is_point k r
point_second k r e = rw (T_true (r.lo == k) (rw e (eqb_refl k)))

pub point_miss : (k : ℕ) (r : model.Range) → (r.lo ≢ k) → false ≡ is_point k r
point_miss k r n = rw (← eqb_no r.lo k n)

pub sum_second : (a b m : ℕ) → a ≤ m → nat_le b (m - a) ≡ nat_le (a + b) m
sum_second a b m h = test_iff (nat_le b (m - a)) (nat_le (a + b) m)
    (λ t. let l = leb→le b (m - a) t in le→leb (a + b) m (omega arith))
    (λ t. let l = leb→le (a + b) m t in le→leb b (m - a) (omega arith))

pub sum_fits : (a b m : ℕ) → nat_le (a + b) m ≡ true → a + b ≤ m
sum_fits a b m e = leb→le (a + b) m (rw e tt)

pub sum_miss : (a b m : ℕ) → m < a → false ≡ nat_le (a + b) m
sum_miss a b m h = sym (T_false (nat_le (a + b) m) (lt→nleb (a + b) m (omega arith)))

-- ---- the rows, by the tests passed ----

pub add_constants : (w : ℕ) (l r : model.Range) → (single l && single r) ≡ true → add_range w l r ≡ model.point ((l.lo + r.lo) % 2 ^ 64 % 2 ^ w)
add_constants w l r t = rw t

pub add_sums : (w : ℕ) (l r : model.Range) → (single l && single r) ≡ false → nat_le (l.hi + r.hi) (2 ^ w - 1) ≡ true
    → add_range w l r ≡ record { lo = l.lo + r.lo; hi = l.hi + r.hi }
add_sums w l r t s = rw (t, s)

pub add_full : (w : ℕ) (l r : model.Range) → (single l && single r) ≡ false → nat_le (l.hi + r.hi) (2 ^ w - 1) ≡ false → add_range w l r ≡ model.full w
add_full w l r t s = rw (t, s)

pub sub_constants : (w : ℕ) (l r : model.Range) → (single l && single r) ≡ true → sub_range w l r ≡ model.point ((l.lo + (2 ^ 64 - r.lo)) % 2 ^ 64 % 2 ^ w)
sub_constants w l r t = rw t

pub sub_within : (w : ℕ) (l r : model.Range) → (single l && single r) ≡ false → r.hi ≤ l.lo → sub_range w l r ≡ record { lo = l.lo - r.hi; hi = l.hi - r.lo }
sub_within w l r t h = rw (t, T_true (nat_le r.hi l.lo) (le→leb r.hi l.lo h))

pub sub_full : (w : ℕ) (l r : model.Range) → (single l && single r) ≡ false → l.lo < r.hi → sub_range w l r ≡ model.full w
sub_full w l r t h = rw (t, T_false (nat_le r.hi l.lo) (lt→nleb r.hi l.lo h))

pub mux_else : (c y n : model.Range) → is_point 0 c ≡ true → mux_range (some c) y n ≡ n
mux_else c y n t = rw t

pub mux_then : (c y n : model.Range) → is_point 0 c ≡ false → is_point 1 c ≡ true → mux_range (some c) y n ≡ y
mux_then c y n t s = rw (t, s)

pub mux_hull : (c y n : model.Range) → is_point 0 c ≡ false → is_point 1 c ≡ false → mux_range (some c) y n ≡ model.hull y n
mux_hull c y n t s = rw (t, s)

pub slice_point : (lsb w : ℕ) (r : model.Range) → r.lo ≡ r.hi → slice_range_of lsb w r ≡ model.point (r.hi / 2 ^ lsb % 2 ^ w)
slice_point lsb w r e = rw (T_true (single r) (rw e (eqb_refl r.hi)))

pub slice_part : (lsb w : ℕ) (r : model.Range) → (r.lo ≢ r.hi) → slice_range_of lsb w r ≡ record { lo = 0; hi = min (r.hi / 2 ^ lsb) (2 ^ w - 1) }
slice_part lsb w r n = rw (← eqb_no r.lo r.hi n)

-- a part of 64 bits stands alone
pub join_wide : (acc part w : ℕ) → w ≡ 64 → acc * 2 ^ w + part < 2 ^ 64 → part ≡ acc * 2 ^ w + part
join_wide acc part w e h = let g : acc * 2 ^ 64 + part < 2 ^ 64 = rw e at h in rw e (omega arith)

-- ---- the bit length ----

bit_len_zero : (f : ℕ) → model.bit_len f 0 ≡ 0
bit_len_zero zero = refl
bit_len_zero (suc f) = refl

bit_len_least : (f n : ℕ) → 2 ^ model.bit_len f (suc n) ≤ 2 * suc n
bit_len_least zero n = omega arith
bit_len_least (suc f) n = go (suc n / 2) refl (bit_len_least f)
  where
    go : (m : ℕ) → suc n / 2 ≡ m → ((k : ℕ) → 2 ^ model.bit_len f (suc k) ≤ 2 * suc k) → 2 ^ suc (model.bit_len f m) ≤ 2 * suc n
    go zero e h = rw (bit_len_zero f) (omega arith)
    go (suc m) e h = omega (arith, h m, pow-succ' 2 (model.bit_len f (suc m)))

bit_len_near : (n : ℕ) → 2 ^ model.bit_len 64 n ≤ 2 * n + 1
bit_len_near zero = omega arith
bit_len_near (suc n) = omega (arith, bit_len_least 64 n)

bit_len_most : (f n : ℕ) → model.bit_len f n ≤ f
bit_len_most zero n = omega arith
bit_len_most (suc f) zero = omega arith
bit_len_most (suc f) (suc n) = omega (arith, bit_len_most f (suc n / 2))

pub bit_len_zeros : (x : ℕ) → x < 2 ^ 64 → 64 - count_leading_zeros 64 x ≡ model.bit_len 64 x
bit_len_zeros x h =
    let m = bit_len_most 64 x in
    let u = leading_unique 64 x (64 - model.bit_len 64 x) (model.bit_len 64 x) (omega arith) (bit_len_fits 64 x h) (bit_len_near x) in
    rw (← u) (omega arith)

-- all ones up to the bit length: none of 0; of another number at least one
pub ones_zero : (x : ℕ) → x ≡ 0 → 0 ≡ 2 ^ model.bit_len 64 x - 1
ones_zero x e = rw e

pub bit_len_some : (x k : ℕ) → (x ≢ 0) → k ≡ model.bit_len 64 x → (1 ≤ k) × (k ≤ 64)
bit_len_some zero k n e = absurd (n refl)
bit_len_some (suc x) k n e = (omega arith, omega (arith, bit_len_most 64 (suc x)))

-- ---- the narrowed width ----

pub narrow_yes : (w : ℕ) (r : model.Range) (k : ℕ) → k ≡ max 1 (model.bit_len 64 r.hi) → k < w → some k ≡ model.narrow_by w (some r)
narrow_yes w r k e h = rw (← e, T_true (nat_lt k w) (lt→ltb k w h))

pub narrow_no : (w : ℕ) (r : model.Range) (k : ℕ) → k ≡ max 1 (model.bit_len 64 r.hi) → w ≤ k → none ≡ model.narrow_by w (some r)
narrow_no w r k e h = rw (← e, T_false (nat_lt k w) (le→nltb k w h))
