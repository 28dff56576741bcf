-- Each row of `binary_range`, of Mux, Slice and Concat: a range holds what its word can be. Assumes nothing.
use Rattle.std.specs.Prelude.{◌≡◌, refl, Bool, true, false, not, cond, ◌&&◌, List, [], ◌∷◌, ◌++◌, ℕ, zero, suc, ◌+◌, ◌*◌, ◌-◌, ◌^◌, ◌/◌, ◌%◌, ◌≤◌, ◌<◌, min, max, T, leb, length}
use Rattle.std.proofs.Common.{sym, ap, ◌∙◌, append_assoc, zero-le, mod-eq_of_lt, mod-lt, mul-le-mul_left, arith, eqb→eq, leb→le, length-append, pow_pos, pow-add, pow_mono}
use Rattle.std.proofs.Math.Nat.{mod-le, add-mul-mod_self_left, add-mod_right, pow-succ'}
use Rattle.std.proofs.Math.Pow.{shr_mono}
use Rattle.spec_rtl.specs.Word.{bit, bit_lt, value, value_lt, value_bits, length_bits, value_append, mod_low}
use Rattle.spec_rtl.specs.Ops.{map2, add_w, sub_w, and_w, join_w, slice_w}
use Rattle.spec_model.specs.Ranges.{Range, point, full, single, add_range, sub_range, or_range, slice_range_of, bit_len}
use Rattle.word_laws.specs.Values.{length_map2, value_slice, slice_wide}

-- a word of width w that lies in the range, and the range in the width
pub record Sound (w : ℕ) (r : Range) (a : List Bool) : Type 0 where
  pub wide : length a ≡ w
  pub low : r.lo ≤ value a
  pub high : value a ≤ r.hi
  pub fits : r.hi < 2 ^ w

pub full_sound : (w : ℕ) (a : List Bool) → length a ≡ w → Sound w (full w) a
full_sound w a l = record { wide = l; low = zero-le; high = omega (arith, rw l at (value_lt a)); fits = omega (arith, pow_pos w) }

pub point_sound : (w n : ℕ) (a : List Bool) → length a ≡ w → value a ≡ n → Sound w (point n) a
point_sound w n a l e = record { wide = l; low = omega arith; high = omega arith; fits = omega (arith, rw l at (value_lt a)) }

-- a choice by a test that is kept as an equation
pub choose : {A : Type 0} (P : A → Type 0) (b : Bool) (x y : A) → (T b → P x) → (T (not b) → P y) → P (cond b x y)
choose P true x y f g = f tt
choose P false x y f g = g tt

pub and_l : (b c : Bool) → T (b && c) → T b
and_l true c t = tt
and_l false c t = absurd t

pub and_r : (b c : Bool) → T (b && c) → T c
and_r true c t = t
and_r false c t = absurd t

single_is : (w : ℕ) (r : Range) (a : List Bool) → Sound w r a → T (single r) → value a ≡ r.lo
single_is w r a s t = let e = eqb→eq r.lo r.hi t in omega (arith, s.low, s.high)

pub add_sound : (w : ℕ) (l r : Range) (a b : List Bool) → w ≤ 64 → Sound w l a → Sound w r b → Sound w (add_range w l r) (add_w a b)
add_sound w l r a b h sa sb =
    let le : length (add_w a b) ≡ w = length_bits (length a) (value a + value b) ∙ sa.wide in
    let v : value (add_w a b) ≡ (value a + value b) % 2 ^ w = value_bits (length a) (value a + value b) ∙ rw sa.wide in
    choose (λ (x : Range). Sound w x (add_w a b)) (single l && single r) _ _
    (λ t. let p = single_is w l a sa (and_l (single l) (single r) t) in
    let q = single_is w r b sb (and_r (single l) (single r) t) in
    point_sound w _ (add_w a b) le (v ∙ rw (p, q) (sym (mod_low 64 w (l.lo + r.lo) h))))
    (λ _. choose (λ (x : Range). Sound w x (add_w a b)) (leb (l.hi + r.hi) (2 ^ w - 1)) _ _
    (λ t. let m = leb→le (l.hi + r.hi) (2 ^ w - 1) t in
    let e : (value a + value b) % 2 ^ w ≡ value a + value b = mod-eq_of_lt (omega (arith, pow_pos w, sa.high, sb.high)) in
    record { wide = le; low = rw (v, e) (omega (arith, sa.low, sb.low)); high = rw (v, e) (omega (arith, sa.high, sb.high)); fits = omega (arith, pow_pos w) })
    (λ _. full_sound w (add_w a b) le))

-- 2 ^ 64 or 2 ^ w is taken from: the same modulo 2 ^ w
pub wrap_sub : (w p q : ℕ) → w ≤ 64 → q < 2 ^ w → (p + (2 ^ 64 - q)) % 2 ^ 64 % 2 ^ w ≡ (p + (2 ^ w - q)) % 2 ^ w
wrap_sub w p q h l =
    let s : w + (64 - w) ≡ 64 = omega arith in
    let e : 2 ^ 64 ≡ 2 ^ w * 2 ^ (64 - w) = rw s at (pow-add 2 w (64 - w)) in
    let z : 2 ^ (64 - w) ≡ (2 ^ (64 - w) - 1) + 1 = omega (arith, pow_pos (64 - w)) in
    let f : 2 ^ w * 2 ^ (64 - w) ≡ 2 ^ w * ((2 ^ (64 - w) - 1) + 1) = ap (λ (n : ℕ). 2 ^ w * n) z in
    mod_low 64 w (p + (2 ^ 64 - q)) h
    ∙ ap (λ (n : ℕ). n % 2 ^ w) (times (2 ^ w) (2 ^ (64 - w) - 1) l (e ∙ f))
    ∙ add-mul-mod_self_left (p + (2 ^ w - q)) (2 ^ w) (2 ^ (64 - w) - 1)
  where
    times : (m z : ℕ) → q < m → 2 ^ 64 ≡ m * (z + 1) → p + (2 ^ 64 - q) ≡ p + (m - q) + m * z
    times m z g e = omega arith

pub sub_sound : (w : ℕ) (l r : Range) (a b : List Bool) → w ≤ 64 → Sound w l a → Sound w r b → Sound w (sub_range w l r) (sub_w a b)
sub_sound w l r a b h sa sb =
    let le : length (sub_w a b) ≡ w = length_bits (length a) (value a + (2 ^ length a - value b)) ∙ sa.wide in
    let v : value (sub_w a b) ≡ (value a + (2 ^ w - value b)) % 2 ^ w = value_bits (length a) (value a + (2 ^ length a - value b)) ∙ rw sa.wide in
    choose (λ (x : Range). Sound w x (sub_w a b)) (single l && single r) _ _
    (λ t. let p = single_is w l a sa (and_l (single l) (single r) t) in
    let q = single_is w r b sb (and_r (single l) (single r) t) in
    point_sound w _ (sub_w a b) le (v ∙ rw (p, q) (sym (wrap_sub w l.lo r.lo h (omega (arith, sb.high, sb.fits))))))
    (λ _. choose (λ (x : Range). Sound w x (sub_w a b)) (leb r.hi l.lo) _ _
    (λ t. let m = leb→le r.hi l.lo t in
    let e : (value a + (2 ^ w - value b)) % 2 ^ w ≡ value a - value b
    = ap (λ (n : ℕ). n % 2 ^ w) (omega (arith, sa.low, sb.high, sb.fits)) ∙ add-mod_right (value a - value b) (2 ^ w)
    ∙ mod-eq_of_lt (omega (arith, sa.high, sa.fits)) in
    record { wide = le; low = rw (v, e) (omega (arith, sa.low, sb.high)); high = rw (v, e) (omega (arith, sa.high, sb.low)); fits = omega (arith, sa.fits) })
    (λ _. full_sound w (sub_w a b) le))

and_bit : (x y : Bool) → (bit (x && y) ≤ bit x) × (bit (x && y) ≤ bit y)
and_bit true true = omega arith
and_bit true false = omega arith
and_bit false y = omega arith

pub value_and : (a b : List Bool) → (value (and_w a b) ≤ value a) × (value (and_w a b) ≤ value b)
value_and [] b = (zero-le, zero-le)
value_and (x ∷ a) [] = (zero-le, zero-le)
value_and (x ∷ a) (y ∷ b) = omega (arith, value_and a b, and_bit x y)

pub and_sound : (w : ℕ) (l r : Range) (a b : List Bool) → Sound w l a → Sound w r b
    → Sound w (record { lo = 0; hi = min l.hi r.hi }) (and_w a b)
and_sound w l r a b sa sb = record {
  wide = length_map2 ◌&&◌ a b (sa.wide ∙ sym sb.wide) ∙ sa.wide;
  low = zero-le;
  high = omega (arith, value_and a b, sa.high, sb.high);
  fits = omega (arith, sa.fits);
}

pub hull_sound : (w : ℕ) (y n : Range) (c : Bool) (a b : List Bool) → Sound w y a → Sound w n b
    → Sound w (record { lo = min y.lo n.lo; hi = max y.hi n.hi }) (cond c a b)
hull_sound w y n true a b sa sb = record { wide = sa.wide; low = omega (arith, sa.low); high = omega (arith, sa.high); fits = omega (arith, sa.fits, sb.fits) }
hull_sound w y n false a b sa sb = record { wide = sb.wide; low = omega (arith, sb.low); high = omega (arith, sb.high); fits = omega (arith, sa.fits, sb.fits) }

pub slice_sound : (v lsb w : ℕ) (r : Range) (a : List Bool) → lsb + w ≤ v → Sound v r a → Sound w (slice_range_of lsb w r) (slice_w lsb w a)
slice_sound v lsb w r a h s =
    let l : length (slice_w lsb w a) ≡ w = slice_wide lsb w a (omega (arith, s.wide)) in
    choose (λ (x : Range). Sound w x (slice_w lsb w a)) (single r) _ _
    (λ t. point_sound w _ (slice_w lsb w a) l (value_slice lsb w a ∙ rw (single_is v r a s t, eqb→eq r.lo r.hi t)))
    (λ _. record {
      wide = l;
      low = zero-le;
      high = rw (value_slice lsb w a) (omega (arith, shr_mono lsb s.high, mod-le (value a / 2 ^ lsb) (2 ^ w), mod-lt (value a / 2 ^ lsb) (pow_pos w)));
      fits = omega (arith, pow_pos w);
    })

-- one part more: what was joined so far moves up by the part's width
pub join_step : (v w : ℕ) (s r : Range) (acc p : List Bool) → Sound v s acc → Sound w r p
    → Sound (w + v) (record { lo = s.lo * 2 ^ w + r.lo; hi = s.hi * 2 ^ w + r.hi }) (p ++ acc)
join_step v w s r acc p sa sp =
    let e : value (p ++ acc) ≡ value p + 2 ^ w * value acc = value_append p acc ∙ rw sp.wide in
    record {
      wide = length-append p acc ∙ rw (sp.wide, sa.wide);
      low = rw e (omega (arith, mul-le-mul_left (2 ^ w) sa.low, sp.low));
      high = rw e (omega (arith, mul-le-mul_left (2 ^ w) sa.high, sp.high));
      fits = rw (pow-add 2 w v) (omega (arith, mul-le-mul_left (2 ^ w) sa.fits, sp.fits));
    }

abbrev pub join_l : List Bool → List (List Bool) → List Bool
join_l acc [] = acc
join_l acc (p ∷ ps) = join_l (p ++ acc) ps

pub join_l_is : (acc : List Bool) (ps : List (List Bool)) → join_l acc ps ≡ join_w ps ++ acc
join_l_is acc [] = refl
join_l_is acc (p ∷ ps) = join_l_is (p ++ acc) ps ∙ sym (append_assoc (join_w ps) p acc)

pub bit_len_fits : (f n : ℕ) → n < 2 ^ f → n < 2 ^ bit_len f n
bit_len_fits zero n h = h
bit_len_fits (suc f) zero h = omega arith
bit_len_fits (suc f) (suc n) h = omega (arith, pow-succ' 2 (bit_len f (suc n / 2)), bit_len_fits f (suc n / 2) (omega (arith, pow-succ' 2 f)))

-- a number below 2 ^ w has at most w bits
pub bit_len_within : (f n w : ℕ) → n < 2 ^ w → bit_len f n ≤ w
bit_len_within zero n w h = zero-le
bit_len_within (suc f) zero w h = zero-le
bit_len_within (suc f) (suc n) zero h = absurd (omega arith)
bit_len_within (suc f) (suc n) (suc w) h = omega (arith, bit_len_within f (suc n / 2) w (omega (arith, pow-succ' 2 w)))

-- an operator by bit that makes no 1 of two 0s makes none above the highest of both operands
module _ (f : Bool → Bool → Bool) (none_made : f false false ≡ false) where
  pub bitwise_below : (k : ℕ) (a b : List Bool) → value a < 2 ^ k → value b < 2 ^ k → value (map2 f a b) < 2 ^ k
  bitwise_below k [] b p q = pow_pos k
  bitwise_below k (x ∷ a) [] p q = pow_pos k
  bitwise_below zero (true ∷ a) (y ∷ b) p q = absurd (omega arith)
  bitwise_below zero (false ∷ a) (true ∷ b) p q = absurd (omega arith)
  bitwise_below zero (false ∷ a) (false ∷ b) p q = rw none_made (omega (arith, bitwise_below zero a b (omega arith) (omega arith)))
  bitwise_below (suc k) (x ∷ a) (y ∷ b) p q =
      let e = pow-succ' 2 k in
      omega (arith, bitwise_below k a b (omega arith) (omega arith), bit_lt (f x y))

  pub or_sound : (w : ℕ) (l r : Range) (a b : List Bool) → w ≤ 64 → Sound w l a → Sound w r b → Sound w (or_range l r) (map2 f a b)
  or_sound w l r a b h sa sb =
      let n = max l.hi r.hi in
      let below : n < 2 ^ w = omega (arith, sa.fits, sb.fits) in
      let within = bit_len_within 64 n w below in
      let fits = bit_len_fits 64 n (omega (arith, below, pow_mono h)) in
      record {
        wide = length_map2 f a b (sa.wide ∙ sym sb.wide) ∙ sa.wide;
        low = zero-le;
        high = omega (arith, bitwise_below (bit_len 64 n) a b (omega (arith, sa.high, fits)) (omega (arith, sb.high, fits)));
        fits = omega (arith, pow_mono within, pow_pos (bit_len 64 n));
      }
