-- The operators by the numbers of their words: each is the operation of IEEE 1800 on two-valued words, at every width. Assumes nothing.
use Rattle.std.specs.Prelude.{◌≡◌, refl, Bool, true, false, not, cond, List, [], ◌∷◌, ◌++◌, ℕ, zero, suc, ◌+◌, ◌*◌, ◌-◌, ◌^◌, ◌/◌, ◌%◌, ◌≤◌, ◌<◌, T, eqb, ltb, length, take, drop, get_or, replicate}
use Rattle.std.proofs.Common.{sym, ap, ◌∙◌, zero-le, mod-eq_of_lt, mul_comm, not-suc-le-zero, le_of_suc-le-suc, zero-add, arith, eqb→eq, length-append, length-take, length-drop, get_or-drop, get_or-append-add, pow_pos}
use Rattle.std.proofs.Math.Nat.{pow-succ', mod-add-mod, add-mod_right}
use Rattle.std.proofs.Math.Decide.{dec_lt}
use Rattle.std.proofs.Math.Dec.{eqb_refl}
use Rattle.std.proofs.lemmas.List.{length-replicate, get_or-replicate}
use Rattle.std.proofs.Math.ListN.{get_or-append}
use Rattle.spec_rtl.specs.Word.{bit, value, odd, value_lt, value_bits, value_inj, value_append, value_zeros, value_take, value_drop}
use Rattle.spec_rtl.specs.Ops.{map2, tab, add_w, add_c, sub_w, mul_w, eq_w, shl, shr, any_r, all_r, par_r, join_w, slice_w}
use Rattle.word_laws.specs.Shift.{tab_ext, cond_lt, cond_ge}
use Rattle.word_laws.specs.Tree.{eqb_iff, eqb_no}

-- ---- sums, differences, products: modulo 2 to the width ----

pub value_add : (a b : List Bool) → value (add_w a b) ≡ (value a + value b) % 2 ^ length a
value_add a b = value_bits (length a) (value a + value b)

pub value_add_c : (a b : List Bool) (c : Bool) → value (add_c a b c) ≡ (value a + value b + bit c) % 2 ^ length a
value_add_c a b c = value_bits (length a) (value a + value b + bit c)

-- what is taken away and added again gives the first number
pub value_sub : (a b : List Bool) → length b ≡ length a → (value (sub_w a b) + value b) % 2 ^ length a ≡ value a
value_sub a b l =
    let e : value a + (2 ^ length a - value b) + value b ≡ value a + 2 ^ length a = omega (arith, rw l at (value_lt b)) in
    rw (value_bits (length a) (value a + (2 ^ length a - value b)), mod-add-mod (value a + (2 ^ length a - value b)) (2 ^ length a) (value b), e, add-mod_right (value a) (2 ^ length a))
    (mod-eq_of_lt (value_lt a))

pub value_mul : (a b : List Bool) → value (mul_w a b) ≡ value a * value b % 2 ^ length a
value_mul a b = value_bits (length a) (value a * value b)

-- ---- bitwise ----

pub length_map2 : (f : Bool → Bool → Bool) (a b : List Bool) → length a ≡ length b → length (map2 f a b) ≡ length a
length_map2 f [] b l = refl
length_map2 f (x ∷ a) [] l = absurd (omega arith)
length_map2 f (x ∷ a) (y ∷ b) l = rw (length_map2 f a b (omega arith))

-- bit i of a bitwise operation is the operation on bits i
pub bit_map2 : (f : Bool → Bool → Bool) (a b : List Bool) (i : ℕ) (d : Bool) → length a ≡ length b → i < length a → get_or (map2 f a b) i d ≡ f (get_or a i d) (get_or b i d)
bit_map2 f [] b i d l h = absurd (not-suc-le-zero h)
bit_map2 f (x ∷ a) [] i d l h = absurd (omega arith)
bit_map2 f (x ∷ a) (y ∷ b) zero d l h = refl
bit_map2 f (x ∷ a) (y ∷ b) (suc i) d l h = bit_map2 f a b i d (omega arith) (le_of_suc-le-suc h)

-- ---- equality ----

pub eq_w_same : (a : List Bool) → T (eq_w a a)
eq_w_same a = eqb_refl (value a)

pub eq_w_only : (a b : List Bool) → length a ≡ length b → T (eq_w a b) → a ≡ b
eq_w_only a b l t = value_inj a b l (eqb→eq (value a) (value b) t)

-- ---- shifts by whole numbers ----

-- the first w bits of a word that is at least as long
tab_take : (w : ℕ) (b : List Bool) → w ≤ length b → tab w (λ i. get_or b i false) ≡ take w b
tab_take zero b h = refl
tab_take (suc w) [] h = absurd (not-suc-le-zero h)
tab_take (suc w) (x ∷ b) h = rw (tab_take w b (le_of_suc-le-suc h))

-- a word filled up with false keeps its number
tab_pad : (w : ℕ) (b : List Bool) → length b ≤ w → value (tab w (λ i. get_or b i false)) ≡ value b
tab_pad zero [] h = refl
tab_pad zero (x ∷ b) h = absurd (not-suc-le-zero h)
tab_pad (suc w) [] h = rw (tab_pad w [] zero-le)
tab_pad (suc w) (x ∷ b) h = rw (tab_pad w b (le_of_suc-le-suc h))

shl_take : (a : List Bool) (n : ℕ) → shl a n ≡ take (length a) (replicate n false ++ a)
shl_take a n =
    tab_ext (length a) _ (λ i. get_or (replicate n false ++ a) i false) (λ i _. at i)
    ∙ tab_take (length a) (replicate n false ++ a) (rw (length-append (replicate n false) a, length-replicate n false) (omega arith))
  where
    at : (i : ℕ) → cond (ltb i n) false (get_or a (i - n) false) ≡ get_or (replicate n false ++ a) i false
    at i = elim (dec_lt i n) [
      | yes l ↦ cond_lt i n false (get_or a (i - n) false) l
          ∙ sym (get_or-append (replicate n false) a false i (rw (length-replicate n false) l) ∙ get_or-replicate n i false false l)
      | no g ↦ cond_ge i n false (get_or a (i - n) false) (omega arith)
          ∙ sym (ap (λ (j : ℕ). get_or (replicate n false ++ a) j false) (rw (length-replicate n false) (omega arith)) ∙ get_or-append-add (replicate n false) a (i - n) false)
    ]

pub value_shl : (a : List Bool) (n : ℕ) → value (shl a n) ≡ value a * 2 ^ n % 2 ^ length a
value_shl a n =
    ap value (shl_take a n) ∙ value_take (length a) (replicate n false ++ a)
    ∙ rw (value_append (replicate n false) a, value_zeros n, length-replicate n false, zero-add (2 ^ n * value a), mul_comm (2 ^ n) (value a))

pub value_shr : (a : List Bool) (n : ℕ) → value (shr false a n) ≡ value a / 2 ^ n
value_shr a n =
    ap value (tab_ext (length a) _ (λ i. get_or (drop n a) i false) (λ i _. sym (get_or-drop n a i false)))
    ∙ tab_pad (length a) (drop n a) (rw (length-drop n a) (omega arith)) ∙ value_drop n a

-- ---- joined and taken apart ----

-- the first part is the most significant
pub value_join : (p : List Bool) (ps : List (List Bool)) → value (join_w (p ∷ ps)) ≡ value p * 2 ^ length (join_w ps) + value (join_w ps)
value_join p ps = value_append (join_w ps) p ∙ omega arith

pub value_slice : (lsb w : ℕ) (a : List Bool) → value (slice_w lsb w a) ≡ value a / 2 ^ lsb % 2 ^ w
value_slice lsb w a = value_take w (drop lsb a) ∙ rw (value_drop lsb a)

pub slice_wide : (lsb w : ℕ) (a : List Bool) → lsb + w ≤ length a → length (slice_w lsb w a) ≡ w
slice_wide lsb w a h = length-take w (drop lsb a) ∙ rw (length-drop lsb a) (omega arith)

-- ---- reductions ----

-- or: the number is not 0
pub any_value : (a : List Bool) → any_r a ≡ not (eqb (value a) 0)
any_value [] = refl
any_value (true ∷ a) = rw (← eqb_no (1 + 2 * value a) 0 (omega arith))
any_value (false ∷ a) = rw (any_value a) (ap not (eqb_iff (value a) 0 (0 + 2 * value a) 0 (omega arith) (omega arith)))

-- and: the number is the largest of the width
pub all_value : (a : List Bool) → all_r a ≡ eqb (value a) (2 ^ length a - 1)
all_value [] = refl
all_value (true ∷ a) =
    all_value a ∙ eqb_iff (value a) (2 ^ length a - 1) (1 + 2 * value a) (2 ^ suc (length a) - 1)
    (omega (arith, pow-succ' 2 (length a), pow_pos (length a)))
    (omega (arith, pow-succ' 2 (length a), pow_pos (length a)))
all_value (false ∷ a) = eqb_no (0 + 2 * value a) (2 ^ suc (length a) - 1) (omega (arith, pow-succ' 2 (length a), value_lt a))

-- xor: the count of ones is odd
abbrev pub ones : List Bool → ℕ
ones [] = 0
ones (b ∷ a) = bit b + ones a

pub par_ones : (a : List Bool) → par_r a ≡ odd (ones a)
par_ones [] = refl
par_ones (true ∷ a) = rw (par_ones a) (next (ones a) ∙ ap odd {x = suc (ones a)} {y = 1 + ones a} (omega arith))
  where
    two : (n : ℕ) → odd (suc (suc n)) ≡ odd n
    two n = let e : suc (suc n) % 2 ≡ n % 2 = omega arith in rw e

    next : (n : ℕ) → not (odd n) ≡ odd (suc n)
    next zero = refl
    next (suc zero) = refl
    next (suc (suc n)) = ap not (two n) ∙ next n ∙ sym (two (suc n))
par_ones (false ∷ a) = rw (zero-add (ones a)) (par_ones a)
