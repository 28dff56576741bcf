-- The numbers of a cell's code are those of document 01: sums, differences, products, comparisons of the lists' bits. Assumes nothing.
use Prim.Native.Nat.{ℕ, zero, suc, pred, ◌+◌, ◌-◌, ◌^◌, ◌/◌, ◌%◌, ◌<◌}
use Rattle.std.proofs.Common.{not-suc-le-zero, le_of_suc-le-suc, div-one, arith, ◌∙◌, pow_pos, lt-ltb, le-ltb, le-leb}
use Rattle.std.proofs.Math.Nat.{div-div-eq-div-mul, pow-succ', div-eq_of_lt, add-div_right}
use Rattle.std.proofs.Math.Decide.{dec_lt, dec_le}
use Rattle.std.specs.Prelude.{◌≡◌, Bool, true, false, cond, List, [], ◌∷◌, map, ltb, leb, get_or}
use Rattle.std.proofs.Math.Path.{refl, sym, ap}
use Rattle.std.proofs.Math.Bool.{not}
use Rattle.std.proofs.Math.Option.{none, some}
use Rattle.std.proofs.Math.ListN.{length}
use Rattle.std.proofs.lemmas.List.{length-map}
use Rattle.std.proofs.lemmas.Bool.{lt-leb}
use Rattle.spec_rtl.specs.Word.{bit, value, bits, bit_odd, value_lt}
use Rattle.spec_rtl.specs.Ops.{lt_u, le_u, top, xor_b}
use Rattle.spec_tests.specs.Rules.{pick, ◌≡?◌, ◌<?◌}
use Rattle.spec_tests.specs.Laws.{no_eq}
use Rattle.spec_rules.specs.Image.{absent, optional}
use Rattle.spec_rules.specs.NetlistImage as N
use Rattle.spec_rules.specs.NetlistImage.{arithmetic_of, comparison_of}
use Rattle.spec_rules.specs.Step.{perhaps, result, arithmetic, compare, comparison}
use Rattle.word_laws.specs.Ripple.{value_not}
use Rattle.word_laws.specs.Signed.{lt_s_signs, le_s_not}
use Rattle.trace_cells.specs.Digits.{digits, held, side, turned}
use Rattle.trace_cells.specs.Cells.{carry_of, total, total_of, left_of, right_of, below, answer, answer_of, top_of, lesser_of, greater_of}

-- ---- a list's number ----

pub record Agree (v : List ℕ) (g : ℕ → Bool) (xs : List ℕ) : Type 0 where
  pub at : (i : ℕ) → i < length xs → get_or v (get_or xs i 0) 0 ≡ bit (g (get_or xs i 0))

rest : {v : List ℕ} {g : ℕ → Bool} {x : ℕ} {xs : List ℕ} → Agree v g (x ∷ xs) → Agree v g xs
rest a = record { at = λ i h. a.at (suc i) (omega arith) }

pub digits_value : (v : List ℕ) (g : ℕ → Bool) (xs : List ℕ) → Agree v g xs → digits (held v) xs ≡ value (map g xs)
unfolding digits
digits_value v g [] a = refl
digits_value v g (x ∷ xs) a = rw (a.at 0 (omega arith), digits_value v g xs (rest a)) refl

pub digits_plain : (v : List ℕ) (g : ℕ → Bool) (xs : List ℕ) → Agree v g xs → digits (side 0 v) xs ≡ value (map g xs)
unfolding digits turned
digits_plain v g [] a = refl
digits_plain v g (x ∷ xs) a = rw (a.at 0 (omega arith), digits_plain v g xs (rest a)) refl

one_less : (b : Bool) → 1 - bit b ≡ bit (not b)
one_less true = refl
one_less false = refl

pub digits_not : (v : List ℕ) (g : ℕ → Bool) (xs : List ℕ) → Agree v g xs → digits (side 1 v) xs ≡ value (map not (map g xs))
unfolding digits turned
digits_not v g [] a = refl
digits_not v g (x ∷ xs) a = rw (a.at 0 (omega arith), one_less (g x), digits_not v g xs (rest a)) refl

-- ---- a number's bit ----

pub bit_of_law : (w t m : ℕ) → m < w → t / 2 ^ m % 2 ≡ bit (get_or (bits w t) m false)
bit_of_law zero t m h = absurd (not-suc-le-zero h)
bit_of_law (suc w) t zero h = rw (div-one t) (sym (bit_odd t))
bit_of_law (suc w) t (suc m) h = rw (pow-succ' 2 m, ← div-div-eq-div-mul t 2 (2 ^ m)) (bit_of_law w (t / 2) m (le_of_suc-le-suc h))

-- ---- sums, differences, products ----

carry_agrees : (x : ℕ) (v : List ℕ) (g : ℕ → Bool) → ((x ≡ absent → ⊥) → get_or v x 0 ≡ bit (g x)) → carry_of x v ≡ bit (perhaps false g (optional x x))
unfolding carry_of optional pick
carry_agrees x v g h = go (x ≡? absent) refl
  where
    go : (t : Bool) → (x ≡? absent) ≡ t → pick t 0 (get_or v x 0) ≡ bit (perhaps false g (pick t none (some x)))
    go true e = refl
    go false e = h (no_eq x absent e)

module _ (v : List ℕ) (g : ℕ → Bool) (lhs rhs : List ℕ) (a : Agree v g lhs) (b : Agree v g rhs) (same : length rhs ≡ length lhs) (c : ℕ) where
  total_is : (operation : ℕ) → operation < 3
      → total operation lhs rhs c v ≡ result (get_or (N.Add ∷ N.Subtract ∷ N.Multiply ∷ []) operation N.Add) (map g lhs) (map g rhs) + c
  unfolding total pick ◌≡?◌
  total_is zero h = rw (digits_value v g lhs a, digits_plain v g rhs b) refl
  total_is (suc zero) h =
      let p : 2 ^ length (map g lhs) ≡ 2 ^ length (map g rhs) = ap (λ (n : ℕ). 2 ^ n) (length-map lhs g ∙ sym same ∙ sym (length-map rhs g)) in
      rw (digits_value v g lhs a, digits_not v g rhs b) (omega (arith, value_not (map g rhs)))
  total_is (suc (suc zero)) h = rw (digits_value v g lhs a, digits_value v g rhs b) refl
  total_is (suc (suc (suc n))) h = absurd (omega arith)

-- the outputs of an arithmetic cell's record are the bits of document 01's number
pub arithmetic_bit : (r v : List ℕ) (g : ℕ → Bool) → Agree v g (left_of r) → Agree v g (right_of r) → length (right_of r) ≡ length (left_of r) → get_or r 1 0 < 3
    → ((get_or r 3 0 ≡ absent → ⊥) → get_or v (get_or r 3 0) 0 ≡ bit (g (get_or r 3 0))) → (m : ℕ) → m < length (left_of r)
    → total_of r v / 2 ^ m % 2 ≡ bit (get_or (arithmetic g (arithmetic_of r)) m false)
unfolding arithmetic_of
arithmetic_bit r v g a b same h k m l =
    ap (λ (t : ℕ). t / 2 ^ m % 2) (total_is v g (left_of r) (right_of r) a b same (carry_of (get_or r 3 0) v) (get_or r 1 0) h
    ∙ ap (λ (c : ℕ). result (get_or (N.Add ∷ N.Subtract ∷ N.Multiply ∷ []) (get_or r 1 0) N.Add) (map g (left_of r)) (map g (right_of r)) + c) (carry_agrees (get_or r 3 0) v g k))
    ∙ bit_of_law (length (left_of r)) _ m l

-- ---- comparisons ----

-- the carry out of a + not b + 1 is 0 exactly where a is below b; without the 1, where a is at most b
less_carry : (p a b n : ℕ) → 0 < p → a < p → n + b + 1 ≡ p → 1 - (a + n + 1) / p ≡ bit (ltb a b)
less_carry p a b n h l e = elim (dec_lt a b) [
  | yes s ↦ (let q : (a + n + 1) / p ≡ 0 = div-eq_of_lt (omega arith) in rw (q, lt-ltb a b s) refl)
  | no s ↦ (let d : a + n + 1 ≡ (a - b) + p = omega arith in
      let z : (a - b) / p ≡ 0 = div-eq_of_lt (omega arith) in
      let q : (a + n + 1) / p ≡ 1 = rw d (add-div_right (a - b) h ∙ rw z refl) in
      rw (q, le-ltb a b (omega arith)) refl)
]

most_carry : (p a b n : ℕ) → 0 < p → a < p → n + b + 1 ≡ p → 1 - (a + n + 0) / p ≡ bit (leb a b)
most_carry p a b n h l e = elim (dec_le a b) [
  | yes s ↦ (let q : (a + n + 0) / p ≡ 0 = div-eq_of_lt (omega arith) in rw (q, le-leb a b s) refl)
  | no s ↦ (let d : a + n + 0 ≡ (a - b - 1) + p = omega arith in
      let z : (a - b - 1) / p ≡ 0 = div-eq_of_lt (omega arith) in
      let q : (a + n + 0) / p ≡ 1 = rw d (add-div_right (a - b - 1) h ∙ rw z refl) in
      rw (q, lt-leb a b (omega arith)) refl)
]

module _ (v : List ℕ) (g : ℕ → Bool) (lhs rhs : List ℕ) (a : Agree v g lhs) (b : Agree v g rhs) (same : length rhs ≡ length lhs) where
  below_less : below lhs rhs 1 v ≡ bit (lt_u (map g lhs) (map g rhs))
  below_less =
      let p : 2 ^ length (map g rhs) ≡ 2 ^ length lhs = ap (λ (n : ℕ). 2 ^ n) (length-map rhs g ∙ same) in
      let q : 2 ^ length (map g lhs) ≡ 2 ^ length lhs = ap (λ (n : ℕ). 2 ^ n) (length-map lhs g) in
      let l = value_lt (map g lhs) in
      rw (digits_value v g lhs a, digits_not v g rhs b)
      (less_carry (2 ^ length lhs) (value (map g lhs)) (value (map g rhs)) (value (map not (map g rhs))) (pow_pos (length lhs)) (omega arith) (omega (arith, value_not (map g rhs))))

  below_most : below lhs rhs 0 v ≡ bit (le_u (map g lhs) (map g rhs))
  below_most =
      let p : 2 ^ length (map g rhs) ≡ 2 ^ length lhs = ap (λ (n : ℕ). 2 ^ n) (length-map rhs g ∙ same) in
      let q : 2 ^ length (map g lhs) ≡ 2 ^ length lhs = ap (λ (n : ℕ). 2 ^ n) (length-map lhs g) in
      let l = value_lt (map g lhs) in
      rw (digits_value v g lhs a, digits_not v g rhs b)
      (most_carry (2 ^ length lhs) (value (map g lhs)) (value (map g rhs)) (value (map not (map g rhs))) (pow_pos (length lhs)) (omega arith) (omega (arith, value_not (map g rhs))))

get_d_map : (g : ℕ → Bool) (xs : List ℕ) (i : ℕ) → i < length xs → get_or (map g xs) i false ≡ g (get_or xs i 0)
get_d_map g [] i h = absurd (not-suc-le-zero h)
get_d_map g (x ∷ xs) zero h = refl
get_d_map g (x ∷ xs) (suc i) h = get_d_map g xs i (le_of_suc-le-suc h)

pred_less : (n : ℕ) → pred n ≡ n - 1
pred_less zero = refl
pred_less (suc n) = omega arith

top_is : (v : List ℕ) (g : ℕ → Bool) (xs : List ℕ) → Agree v g xs → 0 < length xs → top_of xs v ≡ bit (top (map g xs))
top_is v g xs a h =
    let e : pred (length (map g xs)) ≡ length xs - 1 = ap pred (length-map xs g) ∙ pred_less (length xs) in
    a.at (length xs - 1) (omega arith) ∙ ap bit (sym (ap (λ (n : ℕ). get_or (map g xs) n false) e ∙ get_d_map g xs (length xs - 1) (omega arith)))

signs_less : (p q t : Bool) (a b u : ℕ) → a ≡ bit p → b ≡ bit q → u ≡ bit t → pick (a ≡? b) u a ≡ bit (cond (xor_b p q) p t)
unfolding pick ◌≡?◌
signs_less true true t a b u ea eb eu = rw (ea, eb) eu
signs_less true false t a b u ea eb eu = rw (ea, eb) refl
signs_less false true t a b u ea eb eu = rw (ea, eb) refl
signs_less false false t a b u ea eb eu = rw (ea, eb) eu

signs_most : (p q t : Bool) (a b u : ℕ) → a ≡ bit p → b ≡ bit q → u ≡ bit (not t) → pick (a ≡? b) u a ≡ bit (not (cond (xor_b q p) q t))
unfolding pick ◌≡?◌
signs_most true true t a b u ea eb eu = rw (ea, eb) eu
signs_most true false t a b u ea eb eu = rw (ea, eb) refl
signs_most false true t a b u ea eb eu = rw (ea, eb) refl
signs_most false false t a b u ea eb eu = rw (ea, eb) eu

leb_not : (a b : ℕ) → leb a b ≡ not (ltb b a)
leb_not a b = elim (dec_le a b) [
  | yes h ↦ le-leb a b h ∙ sym (ap not (le-ltb b a h))
  | no h ↦ lt-leb a b (omega arith) ∙ sym (ap not (lt-ltb b a (omega arith)))
]

module _ (v : List ℕ) (g : ℕ → Bool) (lhs rhs : List ℕ) (a : Agree v g lhs) (b : Agree v g rhs) (same : length rhs ≡ length lhs) (h : 0 < length lhs) where
  long : length (map g rhs) ≡ length (map g lhs)
  long = length-map rhs g ∙ same ∙ sym (length-map lhs g)

  answer_is : (operation : ℕ) → operation < 4
      → answer operation lhs rhs v ≡ bit (compare (get_or (N.LessU ∷ N.LessEqU ∷ N.LessS ∷ N.LessEqS ∷ []) operation N.LessU) (map g lhs) (map g rhs))
  unfolding answer pick ◌<?◌
  answer_is zero l = below_less v g lhs rhs a b same
  answer_is (suc zero) l = below_most v g lhs rhs a b same
  answer_is (suc (suc zero)) l =
      signs_less (top (map g lhs)) (top (map g rhs)) (lt_u (map g lhs) (map g rhs)) (top_of lhs v) (top_of rhs v) (below lhs rhs 1 v) (top_is v g lhs a h) (top_is v g rhs b (omega arith)) (below_less v g lhs rhs a b same)
      ∙ ap bit (sym (lt_s_signs (map g lhs) (map g rhs) (sym long)))
  answer_is (suc (suc (suc zero))) l =
      signs_most (top (map g lhs)) (top (map g rhs)) (lt_u (map g rhs) (map g lhs)) (top_of lhs v) (top_of rhs v) (below lhs rhs 0 v) (top_is v g lhs a h) (top_is v g rhs b (omega arith))
      (below_most v g lhs rhs a b same ∙ ap bit (leb_not (value (map g lhs)) (value (map g rhs))))
      ∙ ap bit (sym (le_s_not (map g lhs) (map g rhs) ∙ ap not (lt_s_signs (map g rhs) (map g lhs) long)))
  answer_is (suc (suc (suc (suc n)))) l = absurd (omega arith)

-- the answer of a comparison's record is document 01's
pub comparison_bit : (r v : List ℕ) (g : ℕ → Bool) → Agree v g (lesser_of r) → Agree v g (greater_of r) → length (greater_of r) ≡ length (lesser_of r) → 0 < length (lesser_of r) → get_or r 1 0 < 4
    → answer_of r v ≡ bit (comparison g (comparison_of r))
unfolding comparison_of
comparison_bit r v g a b same h l = answer_is v g (lesser_of r) (greater_of r) a b same h (get_or r 1 0) l
