-- What a slice takes, by the bits taken: through each kind that is read by bit. Assumes nothing.
use Rattle.std.specs.Prelude.{◌≡◌, refl, Bool, true, false, cond, List, [], ◌∷◌, ◌++◌, map, ℕ, zero, suc, ◌+◌, ◌-◌, ◌≤◌, min, length, take, drop}
use Rattle.std.proofs.Common.{sym, ap, ◌∙◌, zero-add, suc-add, arith, take-take}
use Rattle.std.proofs.Math.Seq.{take-nil, drop-nil}
use Rattle.spec_rtl.specs.Ops.{tab, map2, slice_w}
use Rattle.word_laws.specs.Shift.{tab_ext}

pub map_slice : (f : Bool → Bool) (lsb w : ℕ) (a : List Bool) → slice_w lsb w (map f a) ≡ map f (slice_w lsb w a)
map_slice f zero zero a = refl
map_slice f zero (suc w) [] = refl
map_slice f zero (suc w) (x ∷ a) = rw (map_slice f zero w a)
map_slice f (suc lsb) w [] = rw (take-nil {A = Bool} w)
map_slice f (suc lsb) w (x ∷ a) = map_slice f lsb w a

map2_nil : (f : Bool → Bool → Bool) (a : List Bool) → map2 f a [] ≡ []
map2_nil f [] = refl
map2_nil f (x ∷ a) = refl

pub map2_slice : (f : Bool → Bool → Bool) (lsb w : ℕ) (a b : List Bool) → slice_w lsb w (map2 f a b) ≡ map2 f (slice_w lsb w a) (slice_w lsb w b)
map2_slice f zero zero a b = refl
map2_slice f zero (suc w) [] b = refl
map2_slice f zero (suc w) (x ∷ a) [] = refl
map2_slice f zero (suc w) (x ∷ a) (y ∷ b) = rw (map2_slice f zero w a b)
map2_slice f (suc lsb) w [] b = rw (take-nil {A = Bool} w)
map2_slice f (suc lsb) w (x ∷ a) [] = rw (take-nil {A = Bool} w) (sym (map2_nil f (slice_w lsb w a)))
map2_slice f (suc lsb) w (x ∷ a) (y ∷ b) = map2_slice f lsb w a b

pub cond_slice : (c : Bool) (lsb w : ℕ) (a b : List Bool) → slice_w lsb w (cond c a b) ≡ cond c (slice_w lsb w a) (slice_w lsb w b)
cond_slice true lsb w a b = refl
cond_slice false lsb w a b = refl

pub tab_slice : (lsb w n : ℕ) (f : ℕ → Bool) → lsb + w ≤ n → slice_w lsb w (tab n f) ≡ tab w (λ i. f (lsb + i))
tab_slice zero zero n f h = refl
tab_slice zero (suc w) zero f h = absurd (omega arith)
tab_slice zero (suc w) (suc n) f h = rw (tab_slice zero w n (λ i. f (suc i)) (omega arith), zero-add 0)
    (ap (λ (t : List Bool). f 0 ∷ t) (tab_ext w _ _ (λ i _. ap f (omega arith))))
tab_slice (suc lsb) w zero f h = absurd (omega arith)
tab_slice (suc lsb) w (suc n) f h = tab_slice lsb w n (λ i. f (suc i)) (omega arith) ∙ tab_ext w _ _ (λ i _. ap f (omega arith))

-- a slice of a slice
pub slice_slice : (l k w n : ℕ) (a : List Bool) → k + w ≤ n → slice_w k w (slice_w l n a) ≡ slice_w (l + k) w a
slice_slice (suc l) k w n [] h = rw (take-nil {A = Bool} n, drop-nil {A = Bool} k, drop-nil {A = Bool} (suc l + k))
slice_slice (suc l) k w n (x ∷ a) h = rw (suc-add l k) (slice_slice l k w n a h)
slice_slice zero k w n a h = rw (zero-add k) (low k w n a h)
  where
    low : (k w n : ℕ) (a : List Bool) → k + w ≤ n → take w (drop k (take n a)) ≡ take w (drop k a)
    low zero w n a h = take-take w n a (omega arith)
    low (suc k) w zero a h = absurd (omega arith)
    low (suc k) w (suc n) [] h = refl
    low (suc k) w (suc n) (x ∷ a) h = low k w n a (omega arith)

-- (apart: with more in reach omega would have too many cases)
one_less : (w l r : ℕ) → r ≡ suc w - (suc l - 0) → r ≡ w - (l - 0)
one_less w l r t = omega arith

no_left : (k l : ℕ) → k ≡ 0 - suc l → k ≡ 0 - l
no_left k l q = omega arith

-- a slice of two parts, a the lower: what overlaps a, then what overlaps b
parts : (lsb w : ℕ) (a b : List Bool) (n k r : ℕ) → n ≡ min w (length a - lsb) → k ≡ lsb - length a → r ≡ w - (length a - lsb)
    → take w (drop lsb (a ++ b)) ≡ take n (drop lsb a) ++ take r (drop k b)
parts lsb w [] b n k r p q t =
    let q' : k ≡ lsb = omega arith in
    let t' : r ≡ w = omega arith in
    rw (drop-nil {A = Bool} lsb, take-nil {A = Bool} n, q', t')
parts (suc lsb) w (x ∷ a) b n k r p q t = parts lsb w a b n k r (omega arith) (omega arith) (omega arith)
parts zero zero (x ∷ a) b n k r p q t =
    let p' : n ≡ 0 = omega arith in
    let t' : r ≡ 0 = omega arith in
    rw (p', t')
parts zero (suc w) (x ∷ a) b n k r p q t =
    let p' : n ≡ suc (min w (length a - 0)) = omega arith in
    rw p' (ap (λ (l : List Bool). x ∷ l) (parts zero w a b (min w (length a - 0)) k r refl (no_left k (length a) q) (one_less w (length a) r t)))

pub append_slice : (lsb w : ℕ) (a b : List Bool) → slice_w lsb w (a ++ b) ≡ slice_w lsb (min w (length a - lsb)) a ++ slice_w (lsb - length a) (w - (length a - lsb)) b
append_slice lsb w a b = parts lsb w a b (min w (length a - lsb)) (lsb - length a) (w - (length a - lsb)) refl refl refl
