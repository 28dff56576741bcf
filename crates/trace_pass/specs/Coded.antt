-- A step of the code as the five words that the laws speak of: (net, table, three nets) of a gate, (.., 256, the place of its record) of an
-- arithmetic cell, (net, 257, the place) of a comparison. Assumes nothing.
use Rattle.std.specs.Prelude.{ℕ, zero, suc, ◌+◌, ◌*◌, ◌^◌, ◌/◌, ◌%◌, ◌<◌, ◌≡◌, refl, List, [], ◌∷◌, length, drop, get_or, set}
use Rattle.std.proofs.Common.{not-suc-le-zero, arith, sym, ap, subst, ◌∙◌}
use Rattle.trace_cells.specs.Cells.{ArithmeticFits, left_of, outs_of, total_of, Compares, lesser_of, greater_of, answer_of}
use Rattle.trace_cells.specs.Digits.{Writes}
use Rattle.trace_pass.specs.declared.Step.{Step}
use Rattle.trace_pass.specs.declared.Step.TheVariants.{Gate, Arithmetic, Comparison}
use Rattle.trace_pass.specs.Plan.{word, place, Ready, Done}

abbrev pub word_in : Step → ℕ → ℕ
word_in (Gate k q x y z) f = get_or (k ∷ q ∷ x ∷ y ∷ z ∷ []) f 0
word_in (Arithmetic p) f = get_or (0 ∷ 256 ∷ p ∷ 0 ∷ 0 ∷ []) f 0
word_in (Comparison k p) f = get_or (k ∷ 257 ∷ p ∷ 0 ∷ 0 ∷ []) f 0

abbrev pub words_of : List Step → List ℕ
words_of [] = []
words_of (s ∷ ss) = word_in s 0 ∷ word_in s 1 ∷ word_in s 2 ∷ word_in s 3 ∷ word_in s 4 ∷ words_of ss

pub words_long : (ss : List Step) → length (words_of ss) ≡ 5 * length ss
words_long [] = refl
words_long (s ∷ ss) = let e = words_long ss in omega arith

pub word_at_of : (ss : List Step) (i f : ℕ) (d : Step) → i < length ss → f < 5 → word (words_of ss) i f ≡ word_in (get_or ss i d) f
word_at_of [] i f d h l = absurd (not-suc-le-zero h)
word_at_of (s ∷ ss) zero zero d h l = refl
word_at_of (s ∷ ss) zero (suc zero) d h l = refl
word_at_of (s ∷ ss) zero (suc (suc zero)) d h l = refl
word_at_of (s ∷ ss) zero (suc (suc (suc zero))) d h l = refl
word_at_of (s ∷ ss) zero (suc (suc (suc (suc zero)))) d h l = refl
word_at_of (s ∷ ss) zero (suc (suc (suc (suc (suc f))))) d h l = absurd (omega arith)
word_at_of (s ∷ ss) (suc i) f d h l =
    let e : 5 * suc i + f ≡ suc (suc (suc (suc (suc (5 * i + f))))) = omega arith in
    ap (λ (n : ℕ). get_or (words_of (s ∷ ss)) n 0) e ∙ word_at_of ss i f d (omega arith) l

-- ---- a step by itself ----

module _ (ws : List ℕ) (ss : List Step) (i : ℕ) (d : Step) (h : i < length ss) where
  abbrev pub one : List ℕ
  one = words_of (get_or ss i d ∷ [])

  same : (f : ℕ) → f < 5 → word (words_of ss) i f ≡ word one 0 f
  same f l = word_at_of ss i f d h l ∙ sym (word_at_of (get_or ss i d ∷ []) 0 f d (omega arith) l)

  same_place : place ws (words_of ss) i ≡ place ws one 0
  same_place = ap (λ (n : ℕ). drop n ws) (same 2 (omega arith))

  pub ready_one : {v : List ℕ} → Ready ws (words_of ss) i v → Ready ws one 0 v
  ready_one {v} g =
      let e0 = same 0 (omega arith) in
      let e1 = same 1 (omega arith) in
      let e2 = same 2 (omega arith) in
      let e3 = same 3 (omega arith) in
      let e4 = same 4 (omega arith) in
      record {
        long = omega arith;
        bits = g.bits;
        gate = λ q. (let f = g.gate (omega arith) in ((omega arith, omega arith), (omega arith, omega arith)));
        arithmetic = λ q. subst (λ (r : List ℕ). ArithmeticFits r v) same_place (g.arithmetic (omega arith));
        comparison = λ q. (let f = g.comparison (omega arith) in (omega arith, subst (λ (r : List ℕ). Compares (lesser_of r) (greater_of r) v) same_place f.1));
      }

  pub done_one : {v v' : List ℕ} → Done ws one 0 v v' → Done ws (words_of ss) i v v'
  done_one {v} {v'} g =
      let e0 = same 0 (omega arith) in
      let e1 = same 1 (omega arith) in
      let e2 = same 2 (omega arith) in
      let e3 = same 3 (omega arith) in
      let e4 = same 4 (omega arith) in
      record {
        gate = λ q. rw (e0, e1, e2, e3, e4) (g.gate (omega arith));
        arithmetic = λ q. subst (λ (r : List ℕ). Writes (outs_of r) v v' (λ m. total_of r v / 2 ^ m % 2) (length (left_of r))) (sym same_place) (g.arithmetic (omega arith));
        comparison = λ q. rw e0 (g.comparison (omega arith) ∙ ap (λ (r : List ℕ). set v (word one 0 0) (answer_of r v)) (sym same_place));
      }
