-- Shifts by stages of multiplexers. Assumes nothing.
use Rattle.std.specs.Prelude.{◌≡◌, refl, Bool, true, false, not, cond, List, [], ◌∷◌, ℕ, zero, suc, pred, ◌+◌, ◌*◌, ◌-◌, ◌^◌, ◌≤◌, ◌<◌, min, T, ltb, length, get_or}
use Rattle.std.proofs.Common.{sym, ap, ◌∙◌, zero-le, suc-le-suc, not-suc-le-zero, le_of_suc-le-suc, zero-add, add_assoc, arith, lt→ltb}
use Rattle.std.proofs.Math.Nat.{pow-succ'}
use Rattle.std.proofs.Math.Decide.{dec_lt}
use Rattle.std.proofs.Math.Arith.{le→nltb}
use Rattle.std.proofs.Math.ListN.{get_or-eq_default}
use Rattle.spec_rtl.specs.Word.{value}
use Rattle.spec_rtl.specs.Ops.{tab, top, shl, shr, map2}

pub length_tab : (w : ℕ) (f : ℕ → Bool) → length (tab w f) ≡ w
length_tab zero f = refl
length_tab (suc w) f = ap suc (length_tab w (λ i. f (suc i)))

-- an element of a table whose rule gives the default from the end on
pub get_or_tab : (w : ℕ) (f : ℕ → Bool) (d : Bool) → ((i : ℕ) → w ≤ i → f i ≡ d) → (i : ℕ) → get_or (tab w f) i d ≡ f i
get_or_tab zero f d h i = sym (h i zero-le)
get_or_tab (suc w) f d h zero = refl
get_or_tab (suc w) f d h (suc i) = get_or_tab w (λ j. f (suc j)) d (λ j l. h (suc j) (suc-le-suc l)) i

pub get_or_tab_in : (w : ℕ) (f : ℕ → Bool) (d : Bool) (i : ℕ) → i < w → get_or (tab w f) i d ≡ f i
get_or_tab_in zero f d i h = absurd (not-suc-le-zero h)
get_or_tab_in (suc w) f d zero h = refl
get_or_tab_in (suc w) f d (suc i) h = get_or_tab_in w (λ j. f (suc j)) d i (le_of_suc-le-suc h)

pub tab_ext : (w : ℕ) (f g : ℕ → Bool) → ((i : ℕ) → i < w → f i ≡ g i) → tab w f ≡ tab w g
tab_ext zero f g h = refl
tab_ext (suc w) f g h = rw (h zero (suc-le-suc zero-le), tab_ext w (λ i. f (suc i)) (λ i. g (suc i)) (λ i l. h (suc i) (suc-le-suc l)))

pub tab_get_or : (a : List Bool) (d : Bool) → tab (length a) (λ i. get_or a i d) ≡ a
tab_get_or [] d = refl
tab_get_or (x ∷ a) d = rw (tab_get_or a d)

-- a test, decided
pub T_true : (b : Bool) → T b → b ≡ true
T_true true t = refl
T_true false t = absurd t

pub T_false : (b : Bool) → T (not b) → b ≡ false
T_false true t = absurd t
T_false false t = refl

pub cond_lt : (i n : ℕ) (x y : Bool) → i < n → cond (ltb i n) x y ≡ x
cond_lt i n x y h = rw (T_true (ltb i n) (lt→ltb i n h))

pub cond_ge : (i n : ℕ) (x y : Bool) → n ≤ i → cond (ltb i n) x y ≡ y
cond_ge i n x y h = rw (T_false (ltb i n) (le→nltb i n h))

-- right shifts
pub shr_zero : (f : Bool) (a : List Bool) → shr f a 0 ≡ a
shr_zero f a = tab_ext (length a) _ (λ i. get_or a i f) (λ i _. rw (zero-add i)) ∙ tab_get_or a f

pub shr_shr : (f : Bool) (a : List Bool) (m n : ℕ) → shr f (shr f a m) n ≡ shr f a (m + n)
shr_shr f a m n = rw (length_tab (length a) (λ i. get_or a (m + i) f)) (tab_ext (length a) _ _ (λ i _.
    get_or_tab (length a) (λ j. get_or a (m + j) f) f (λ j l. get_or-eq_default a f (omega arith)) (n + i) ∙ rw (add_assoc m n i)))

pub shr_min : (f : Bool) (a : List Bool) (n : ℕ) → shr f a (min n (length a)) ≡ shr f a n
shr_min f a n = elim (dec_lt n (length a)) [
  | yes l ↦ let e : min n (length a) ≡ n = omega arith in rw e
  | no g ↦ tab_ext (length a) _ _ (λ i _. get_or-eq_default a f (omega arith) ∙ sym (get_or-eq_default a f (omega arith)))
]

-- what the multiplexers of one stage give: the word shifted, or as it was
pub mux_word : (s : Bool) (t e : List Bool) → length t ≡ length e → map2 (cond s) t e ≡ cond s t e
mux_word true [] e l = refl
mux_word true (x ∷ t) [] l = absurd (omega arith)
mux_word true (x ∷ t) (y ∷ e) l = rw (mux_word true t e (omega arith))
mux_word false [] [] l = refl
mux_word false [] (y ∷ e) l = absurd (omega arith)
mux_word false (x ∷ t) [] l = absurd (omega arith)
mux_word false (x ∷ t) (y ∷ e) l = rw (mux_word false t e (omega arith))

-- the stages, the lowest bit of the amount first; each shifts by min (2 ^ stage) w
abbrev pub stages_r : Bool → ℕ → List Bool → List Bool → List Bool
stages_r f i a [] = a
stages_r f i a (true ∷ n) = stages_r f (suc i) (shr f a (min (2 ^ i) (length a))) n
stages_r f i a (false ∷ n) = stages_r f (suc i) a n

pub stages_r_shr : (f : Bool) (i : ℕ) (a n : List Bool) → stages_r f i a n ≡ shr f a (2 ^ i * value n)
stages_r_shr f i a [] = let e : 2 ^ i * 0 ≡ 0 = omega arith in rw e (sym (shr_zero f a))
stages_r_shr f i a (true ∷ n) =
    let e : 2 ^ i + 2 ^ suc i * value n ≡ 2 ^ i * (1 + 2 * value n) = rw (pow-succ' 2 i) (omega arith) in
    rw (shr_min f a (2 ^ i), stages_r_shr f (suc i) (shr f a (2 ^ i)) n, shr_shr f a (2 ^ i) (2 ^ suc i * value n), e)
stages_r_shr f i a (false ∷ n) =
    let e : 2 ^ suc i * value n ≡ 2 ^ i * (0 + 2 * value n) = rw (pow-succ' 2 i) (omega arith) in
    rw (stages_r_shr f (suc i) a n, e)

-- the arithmetic shift fills each stage from the top bit of what the stage is given
abbrev pub stages_a : ℕ → List Bool → List Bool → List Bool
stages_a i a [] = a
stages_a i a (true ∷ n) = stages_a (suc i) (shr (top a) a (min (2 ^ i) (length a))) n
stages_a i a (false ∷ n) = stages_a (suc i) a n

pub top_tab : (w : ℕ) (f : ℕ → Bool) → top (tab (suc w) f) ≡ f w
top_tab w f = ap (λ (n : ℕ). get_or (tab (suc w) f) (pred n) false) (length_tab (suc w) f) ∙ get_or_tab_in (suc w) f false w (omega arith)

pub top_shr : (a : List Bool) (n : ℕ) → top (shr (top a) a n) ≡ top a
top_shr [] n = refl
top_shr (x ∷ a) zero = ap top (shr_zero (top (x ∷ a)) (x ∷ a))
top_shr (x ∷ a) (suc n) = top_tab (length a) (λ i. get_or (x ∷ a) (suc n + i) (top (x ∷ a))) ∙ get_or-eq_default (x ∷ a) (top (x ∷ a)) {n = suc n + length a} (omega arith)

pub stages_a_shr : (i : ℕ) (a n : List Bool) → stages_a i a n ≡ shr (top a) a (2 ^ i * value n)
stages_a_shr i a n = go i a n ∙ stages_r_shr (top a) i a n
  where
    go : (i : ℕ) (a n : List Bool) → stages_a i a n ≡ stages_r (top a) i a n
    go i a [] = refl
    go i a (true ∷ n) = go (suc i) (shr (top a) a (min (2 ^ i) (length a))) n ∙ rw (top_shr a (min (2 ^ i) (length a)))
    go i a (false ∷ n) = go (suc i) a n

-- left shifts
pub shl_zero : (a : List Bool) → shl a 0 ≡ a
shl_zero a = tab_ext (length a) _ (λ i. get_or a i false) (λ i _. cond_ge i 0 false (get_or a (i - 0) false) zero-le ∙ ap (λ (j : ℕ). get_or a j false) (omega arith)) ∙ tab_get_or a false

pub shl_min : (a : List Bool) (n : ℕ) → shl a (min n (length a)) ≡ shl a n
shl_min a n = elim (dec_lt n (length a)) [
  | yes l ↦ let e : min n (length a) ≡ n = omega arith in rw e
  | no g ↦ tab_ext (length a) _ _ (λ i l. cond_lt i _ _ _ (omega arith) ∙ sym (cond_lt i _ _ _ (omega arith)))
]

pub shl_shl : (a : List Bool) (m n : ℕ) → shl (shl a m) n ≡ shl a (m + n)
shl_shl a m n = rw (length_tab (length a) (λ i. cond (ltb i m) false (get_or a (i - m) false))) (tab_ext (length a) _ _ at)
  where
    from : ℕ → Bool
    from i = cond (ltb i m) false (get_or a (i - m) false)

    at : (i : ℕ) → i < length a → cond (ltb i n) false (get_or (tab (length a) from) (i - n) false) ≡ cond (ltb i (m + n)) false (get_or a (i - (m + n)) false)
    at i l = elim (dec_lt i n) [
      | yes h ↦ cond_lt i n _ _ h ∙ sym (cond_lt i (m + n) _ _ (omega arith))
      | no h ↦ cond_ge i n _ _ (omega arith) ∙ get_or_tab_in (length a) from false (i - n) (omega arith) ∙ elim (dec_lt (i - n) m) [
        | yes k ↦ cond_lt (i - n) m _ _ k ∙ sym (cond_lt i (m + n) _ _ (omega arith))
        | no k ↦ cond_ge (i - n) m _ _ (omega arith) ∙ sym (cond_ge i (m + n) _ _ (omega arith) ∙ ap (λ (j : ℕ). get_or a j false) (omega arith))
      ]
    ]

abbrev pub stages_l : ℕ → List Bool → List Bool → List Bool
stages_l i a [] = a
stages_l i a (true ∷ n) = stages_l (suc i) (shl a (min (2 ^ i) (length a))) n
stages_l i a (false ∷ n) = stages_l (suc i) a n

pub stages_l_shl : (i : ℕ) (a n : List Bool) → stages_l i a n ≡ shl a (2 ^ i * value n)
stages_l_shl i a [] = let e : 2 ^ i * 0 ≡ 0 = omega arith in rw e (sym (shl_zero a))
stages_l_shl i a (true ∷ n) =
    let e : 2 ^ i + 2 ^ suc i * value n ≡ 2 ^ i * (1 + 2 * value n) = rw (pow-succ' 2 i) (omega arith) in
    rw (shl_min a (2 ^ i), stages_l_shl (suc i) (shl a (2 ^ i)) n, shl_shl a (2 ^ i) (2 ^ suc i * value n), e)
stages_l_shl i a (false ∷ n) =
    let e : 2 ^ suc i * value n ≡ 2 ^ i * (0 + 2 * value n) = rw (pow-succ' 2 i) (omega arith) in
    rw (stages_l_shl (suc i) a n, e)
