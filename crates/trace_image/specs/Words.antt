-- Bytes read as words. Assumes nothing.
use Rattle.std.specs.Prelude.{ℕ, zero, suc, ◌+◌, ◌*◌, ◌/◌, ◌≤◌, ◌<◌, ◌≡◌, refl, List, [], ◌∷◌, length, take, get_or, set}
use Rattle.std.proofs.Common.{not-suc-le-zero, arith, sym, ap, ◌∙◌, length-take, get_or-set_same, get_or-set_other, get_or-take}
use Rattle.std.proofs.Math.Decide.{dec_lt, ℕ_discrete}
use Rattle.spec_rules.specs.Image.{word_at}
use Rattle.spec_trace.specs.Opened.{words_of}

pub words_length : (bs : List ℕ) → length (words_of bs) ≡ length bs / 4
unfolding words_of
words_length [] = omega arith
words_length (a ∷ []) = omega arith
words_length (a ∷ b ∷ []) = omega arith
words_length (a ∷ b ∷ c ∷ []) = omega arith
words_length (a ∷ b ∷ c ∷ d ∷ rest) = let i = words_length rest in omega arith

pub words_at : (bs : List ℕ) (i : ℕ) → i < length bs / 4 → get_or (words_of bs) i 0 ≡ word_at bs (4 * i)
unfolding words_of word_at
words_at [] i h = absurd (omega arith)
words_at (a ∷ []) i h = absurd (omega arith)
words_at (a ∷ b ∷ []) i h = absurd (omega arith)
words_at (a ∷ b ∷ c ∷ []) i h = absurd (omega arith)
words_at (a ∷ b ∷ c ∷ d ∷ rest) zero h = refl
words_at (a ∷ b ∷ c ∷ d ∷ rest) (suc i) h =
    let z : 4 * suc i ≡ suc (suc (suc (suc (4 * i)))) = omega arith in
    let y₁ : suc (suc (suc (suc (4 * i)))) + 1 ≡ suc (suc (suc (suc (4 * i + 1)))) = omega arith in
    let y₂ : suc (suc (suc (suc (4 * i)))) + 2 ≡ suc (suc (suc (suc (4 * i + 2)))) = omega arith in
    let y₃ : suc (suc (suc (suc (4 * i)))) + 3 ≡ suc (suc (suc (suc (4 * i + 3)))) = omega arith in
    words_at rest i (omega arith) ∙ sym (rw (z, y₁, y₂, y₃))

-- a table whose first i words are read
pub record Reading (bs net : List ℕ) (i : ℕ) : Type 0 where
  pub up_to : i ≤ length bs / 4
  pub same : (j : ℕ) → j < i → get_or net j 0 ≡ word_at bs (4 * j)

pub reading_start : (bs net : List ℕ) → Reading bs net 0
reading_start bs net = record { up_to = omega arith; same = λ j h. absurd (not-suc-le-zero h) }

pub reading_more : {bs net : List ℕ} {i x : ℕ} → Reading bs net i → i < length bs / 4 → i < length net → x ≡ word_at bs (4 * i) → Reading bs (set net i x) (i + 1)
reading_more {bs} {net} {i} {x} r h l e = record {
  up_to = omega arith;
  same = λ j k. elim (ℕ_discrete j i) [
    | yes q ↦ ap (λ (n : ℕ). get_or (set net i x) n 0) q ∙ get_or-set_same net i x 0 l ∙ e ∙ ap (λ (n : ℕ). word_at bs (4 * n)) (sym q)
    | no q ↦ get_or-set_other net i j x 0 q ∙ r.same j (below j i k q)
  ];
}
  where
    below : (j i : ℕ) → j < i + 1 → (j ≡ i → ⊥) → j < i
    below j i l e = elim (dec_lt j i) [
      | yes b ↦ b
      | no b ↦ absurd (e (omega arith))
    ]

same_lists : (xs ys : List ℕ) → length xs ≡ length ys → ((j : ℕ) → j < length ys → get_or xs j 0 ≡ get_or ys j 0) → xs ≡ ys
same_lists [] [] e f = refl
same_lists [] (y ∷ ys) e f = absurd (omega arith)
same_lists (x ∷ xs) [] e f = absurd (omega arith)
same_lists (x ∷ xs) (y ∷ ys) e f = ap (λ (z : ℕ). z ∷ xs) (f 0 (omega arith)) ∙ ap (λ (z : List ℕ). y ∷ z) (same_lists xs ys (omega arith) (λ j h. f (suc j) (omega arith)))

pub reading_end : {bs net : List ℕ} {i n : ℕ} → Reading bs net i → n ≡ length bs / 4 → n ≤ i → n ≤ length net → take n net ≡ words_of bs
reading_end {bs} {net} {i} {n} r e h l =
    let w = words_length bs in
    let t = length-take n net in
    same_lists (take n net) (words_of bs) (omega arith) (λ j k. get_or-take n net j 0 (omega arith) ∙ r.same j (omega arith) ∙ sym (words_at bs j (omega arith)))

-- a table begins with the n words that bytes hold
pub record ReadWords (bs net : List ℕ) (n : ℕ) : Type 0 where
  pub count : n ≡ length bs / 4
  pub words : take n net ≡ words_of bs
