-- Numbers in two's complement: what they are, their order, and the arithmetic shift as division rounded down. Assumes nothing.
use Rattle.std.specs.Prelude.{◌≡◌, refl, Bool, true, false, not, cond, List, [], ◌∷◌, map, ℕ, zero, suc, pred, ◌+◌, ◌^◌, ◌≤◌, ◌<◌, T, ltb, leb, length, get_or, ℤ, pos, negsuc, neg_ℤ, ◌+ℤ◌, ◌≤ℤ◌, ◌<ℤ◌}
use Rattle.std.proofs.Common.{sym, ap, ◌∙◌, zero-le, not-suc-le-zero, arith, ltb→lt, lt→ltb, le→leb}
use Rattle.std.proofs.Math.Nat.{pow-succ'}
use Rattle.std.proofs.Math.Decide.{dec_lt}
use Rattle.std.proofs.Math.Arith.{le→nltb, lt→nleb}
use Rattle.std.proofs.lemmas.List.{length-map}
use Rattle.std.proofs.Math.ListN.{get_or-map}
use Rattle.std.proofs.Math.IntN.{sub_ℕ, +ℤ_idr, +ℤ-neg_ℤ_cancel, -ℤ-+ℤ_cancel}
use Rattle.std.specs.Int.Signed.{lt_z, le_z, shr_z}
use Rattle.spec_rtl.specs.Word.{value, bit_lt}
use Rattle.spec_rtl.specs.Ops.{tab, top, signed, xor_b, not_w, lt_u, lt_s, le_s, shr}
use Rattle.word_laws.specs.Ripple.{value_not}
use Rattle.word_laws.specs.Shift.{T_true, T_false, tab_ext, top_shr}
use Rattle.word_laws.specs.Tree.{test_iff}
use Rattle.word_laws.specs.Values.{value_shr}

-- congruent to the word's number: 2 to the width is taken off where the top bit is set
pub signed_value : (a : List Bool) → signed a +ℤ pos (cond (top a) (2 ^ length a) 0) ≡ pos (value a)
signed_value a = -ℤ-+ℤ_cancel (pos (value a)) (pos (cond (top a) (2 ^ length a) 0))

pub signed_plus : (a : List Bool) → top a ≡ false → signed a ≡ pos (value a)
signed_plus a e = rw e (+ℤ_idr (pos (value a)))

diff : (a b n : ℕ) → a ≡ b + n → sub_ℕ a b ≡ pos n
diff a b n e = rw (T_false (ltb a b) (le→nltb a b (omega arith))) (ap pos (omega arith))

-- a negative number is one less than minus its complement
pub signed_minus : (a : List Bool) → top a ≡ true → signed a ≡ negsuc (value (not_w a))
signed_minus a e =
    let s : negsuc (value (not_w a)) +ℤ pos (2 ^ length a) ≡ pos (value a) = diff (2 ^ length a) (suc (value (not_w a))) (value a) (omega (arith, value_not a)) in
    rw (e, ← s) (+ℤ-neg_ℤ_cancel (negsuc (value (not_w a))) (pos (2 ^ length a)))

-- ---- between minus 2 ^ (width - 1) and 2 ^ (width - 1) ----

pub top_not : (a : List Bool) → 1 ≤ length a → top (not_w a) ≡ not (top a)
top_not [] h = absurd (not-suc-le-zero h)
top_not (x ∷ []) h = refl
top_not (x ∷ y ∷ a) h = top_not (y ∷ a) (omega arith)

pub value_small : (a : List Bool) → 1 ≤ length a → top a ≡ false → value a < 2 ^ pred (length a)
value_small [] h e = absurd (not-suc-le-zero h)
value_small (x ∷ []) h e = rw e (omega arith)
value_small (x ∷ y ∷ a) h e = omega (arith, value_small (y ∷ a) (omega arith) e, pow-succ' 2 (length a), bit_lt x)

-- what holds of a word whose top bit is clear, and of one whose top bit is set
by_top : (P : Bool → Type 0) (b : Bool) → (b ≡ false → P false) → (b ≡ true → P true) → P b
by_top P true f g = g refl
by_top P false f g = f refl

low_pos : (n v : ℕ) → neg_ℤ (pos n) ≤ℤ pos v
low_pos zero v = record { le = le→leb 0 v zero-le }
low_pos (suc n) v = record { le = tt }

low_neg : (n v : ℕ) → v < n → neg_ℤ (pos n) ≤ℤ negsuc v
low_neg zero v h = absurd (not-suc-le-zero h)
low_neg (suc n) v h = record { le = le→leb v n (omega arith) }

small_not : (a : List Bool) → 1 ≤ length a → top a ≡ true → value (not_w a) < 2 ^ pred (length a)
small_not a h t = rw (length-map a not) at (value_small (not_w a) (rw (length-map a not) h) (top_not a h ∙ ap not t))

pub signed_least : (a : List Bool) → 1 ≤ length a → neg_ℤ (pos (2 ^ pred (length a))) ≤ℤ signed a
signed_least a h = by_top (λ _. neg_ℤ (pos (2 ^ pred (length a))) ≤ℤ signed a) (top a)
    (λ t. rw (signed_plus a t) (low_pos (2 ^ pred (length a)) (value a)))
    (λ t. rw (signed_minus a t) (low_neg (2 ^ pred (length a)) (value (not_w a)) (small_not a h t)))

pub signed_most : (a : List Bool) → 1 ≤ length a → signed a <ℤ pos (2 ^ pred (length a))
signed_most a h = by_top (λ _. signed a <ℤ pos (2 ^ pred (length a))) (top a)
    (λ t. rw (signed_plus a t) (record { lt = lt→ltb (value a) (2 ^ pred (length a)) (value_small a h t) }))
    (λ t. rw (signed_minus a t) (record { lt = tt }))

-- ---- order: by the numbers, and by the signs first ----

pub less_signed : (a b : List Bool) → T (lt_s a b) → signed a <ℤ signed b
less_signed a b t = record { lt = t }

pub less_unsigned : (a b : List Bool) → T (lt_u a b) → value a < value b
less_unsigned a b t = ltb→lt (value a) (value b) t

turned : (a b : List Bool) → length a ≡ length b → ltb (value (not_w b)) (value (not_w a)) ≡ lt_u a b
turned a b l =
    let e : 2 ^ length a ≡ 2 ^ length b = rw l in
    test_iff (ltb (value (not_w b)) (value (not_w a))) (lt_u a b)
    (λ t. let h = ltb→lt (value (not_w b)) (value (not_w a)) t in lt→ltb (value a) (value b) (omega (arith, value_not a, value_not b)))
    (λ t. let h = ltb→lt (value a) (value b) t in lt→ltb (value (not_w b)) (value (not_w a)) (omega (arith, value_not a, value_not b)))

pub lt_s_signs : (a b : List Bool) → length a ≡ length b → lt_s a b ≡ cond (xor_b (top a) (top b)) (top a) (lt_u a b)
lt_s_signs a b l = go (top a) (top b) refl refl
  where
    go : (p q : Bool) → top a ≡ p → top b ≡ q → lt_s a b ≡ cond (xor_b p q) p (lt_u a b)
    go true true s t = rw (signed_minus a s, signed_minus b t) (turned a b l)
    go true false s t = rw (signed_minus a s, signed_plus b t)
    go false true s t = rw (signed_plus a s, signed_minus b t)
    go false false s t = rw (signed_plus a s, signed_plus b t)

-- not above is at most
pub le_s_not : (a b : List Bool) → le_s a b ≡ not (lt_s b a)
le_s_not a b = le_not (signed a) (signed b)
  where
    flip : (m n : ℕ) → leb m n ≡ not (ltb n m)
    flip m n = elim (dec_lt n m) [
      | yes l ↦ rw (T_true (ltb n m) (lt→ltb n m l), T_false (leb m n) (lt→nleb m n l))
      | no g ↦ rw (T_false (ltb n m) (le→nltb n m (omega arith)), T_true (leb m n) (le→leb m n (omega arith)))
    ]

    le_not : (y z : ℤ) → le_z y z ≡ not (lt_z z y)
    le_not (pos m) (pos n) = flip m n
    le_not (pos m) (negsuc n) = refl
    le_not (negsuc m) (pos n) = refl
    le_not (negsuc m) (negsuc n) = flip n m

-- ---- the arithmetic shift ----

map_tab : (w : ℕ) (f : ℕ → Bool) → map not (tab w f) ≡ tab w (λ i. not (f i))
map_tab zero f = refl
map_tab (suc w) f = rw (map_tab w (λ i. f (suc i)))

not_shr : (a : List Bool) (n : ℕ) → not_w (shr true a n) ≡ shr false (not_w a) n
not_shr a n = map_tab (length a) (λ i. get_or a (n + i) true) ∙ rw (length-map a not) (tab_ext (length a) _ _ (λ i _. sym (get_or-map not a (n + i) true)))

-- division by 2 ^ n, rounded down
pub signed_shr : (a : List Bool) (n : ℕ) → signed (shr (top a) a n) ≡ shr_z (signed a) (2 ^ n)
signed_shr a n = by_top (λ b. signed (shr b a n) ≡ shr_z (signed a) (2 ^ n)) (top a)
    (λ t. signed_plus (shr false a n) (rw t at (top_shr a n)) ∙ rw (signed_plus a t, value_shr a n))
    (λ t. signed_minus (shr true a n) (rw t at (top_shr a n)) ∙ rw (signed_minus a t, not_shr a n, value_shr (not_w a) n))
