-- The number of a name: different names have different numbers, and none has 0. Assumes nothing.
use Rattle.std.specs.Prelude.{ℕ, zero, suc, ◌+◌, ◌*◌, ◌-◌, ◌≤◌, ◌<◌, ◌≡◌, refl, Bool, true, false, not, length, take, drop, get_or}
use Rattle.std.proofs.Common.{arith, sym, ◌∙◌, length-drop, get_or-drop}
use Rattle.std.proofs.Math.Path.{ap}
use mathlib.Core.List.{List, [], ◌∷◌}
use Rattle.spec_tests.specs.Rules.{◌<?◌, ◌or◌, outside, same_text}
use Rattle.spec_tests.specs.Laws.{or_left, or_right, or_skip, and_miss, and_skip, and_yes, lt_yes, lt_no, eq_yes, yes_eq, inside}
use Rattle.spec_trace.specs.Opened.{having}
use Rattle.spec_trace.specs.Named.{good_name, is_named}
use Rattle.law_told.specs.Told.{untrue}
use Rattle.trace_names.specs.Letters.{none_there}

-- its letters as digits, base 256, the first the lowest
unfoldable pub number : List ℕ → ℕ
number [] = 0
number (b ∷ bs) = b + 256 * number bs

-- a name of 1 to 8 letters a to z, letter by letter
pub record Name (w : List ℕ) : Type 0 where
  pub some : 1 ≤ length w
  pub few : length w ≤ 8
  pub letters : (i : ℕ) → i < length w → (97 ≤ get_or w i 0) × (get_or w i 0 ≤ 122)

-- ---- the loop ----

abbrev Bytes : List ℕ → Type 0
Bytes l = (i : ℕ) → get_or l i 0 < 256

top : ℕ → ℕ
top zero = 1
top (suc k) = 256 * top k

top_some : (k : ℕ) → 0 < top k
unfolding top
top_some zero = omega arith
top_some (suc k) = let h = top_some k in omega arith

below : (k : ℕ) (l : List ℕ) → length l ≤ k → Bytes l → number l < top k
unfolding number top
below zero [] h b = omega arith
below zero (x ∷ l) h b = absurd (omega arith)
below (suc k) [] h b = top_some (suc k)
below (suc k) (x ∷ l) h b = let z = below k l (omega arith) (λ i. b (suc i)) in let y = b 0 in omega arith

-- what is behind the first letter leaves room for one more in a word of 64 bits
pub number_small : (l : List ℕ) (i : ℕ) → 0 < i → length l ≤ 8 → Bytes l → number (drop i l) < 72057594037927936
unfolding top
number_small l i z h b = below 7 (drop i l) (let d = length-drop i l in omega arith) (λ j. (let e = get_or-drop i l j 0 in let y = b (i + j) in omega arith))

pub number_none : (l : List ℕ) → number (drop (length l) l) ≡ 0
unfolding number
number_none [] = refl
number_none (x ∷ l) = number_none l

number_more : (l : List ℕ) (i : ℕ) → i < length l → number (drop i l) ≡ number (drop (suc i) l) * 256 + get_or l i 0
unfolding number
number_more [] i h = absurd (omega arith)
number_more (x ∷ l) zero h = omega arith
number_more (x ∷ l) (suc i) h = number_more l i (omega arith)

-- one letter more
pub number_step : (l : List ℕ) (i n : ℕ) → 0 < i → i ≤ length l → n ≡ number (drop i l) → n * 256 + get_or l (i - 1) 0 ≡ number (drop (i - 1) l)
number_step l i n z h e =
    let q : i ≡ suc (i - 1) = omega arith in
    ap (λ (m : ℕ). m * 256 + get_or l (i - 1) 0) (e ∙ ap (λ (m : ℕ). number (drop m l)) q) ∙ sym (number_more l (i - 1) (omega arith))

pub number_whole : (l : List ℕ) (i n : ℕ) → i ≤ 0 → n ≡ number (drop i l) → n ≡ number l
number_whole l i n z e = let q : i ≡ 0 = omega arith in e ∙ ap (λ (m : ℕ). number (drop m l)) q

-- ---- names apart ----

-- what is tested of a name
pub name_told : {w : List ℕ} → good_name w ≡ true → Name w
unfolding good_name ◌or◌
name_told {w} e = go (outside (length w) 1 8) (having (λ b. outside b 97 122) w) refl refl e
  where
    letter : (v : List ℕ) → having (λ b. outside b 97 122) v ≡ false → (i : ℕ) → i < length v → (97 ≤ get_or v i 0) × (get_or v i 0 ≤ 122)
    letter v h i l = inside (get_or v i 0) 97 122 (none_there (λ b. outside b 97 122) v h i l)

    go : (a b : Bool) → outside (length w) 1 8 ≡ a → having (λ b. outside b 97 122) w ≡ b → not (a or b) ≡ true → Name w
    go true b x y z = untrue z
    go false true x y z = untrue z
    go false false x y z = let i = inside (length w) 1 8 x in record { some = i.0; few = i.1; letters = letter w y }

pub name_some : (w : List ℕ) → Name w → number w ≡ 0 → ⊥
unfolding number
name_some [] n e = absurd (let s = n.some in omega arith)
name_some (b ∷ w) n e = absurd (let s = n.letters 0 (omega arith) in omega arith)

alike : (w v : List ℕ) → ((i : ℕ) → i < length w → (97 ≤ get_or w i 0) × (get_or w i 0 ≤ 122)) → ((i : ℕ) → i < length v → (97 ≤ get_or v i 0) × (get_or v i 0 ≤ 122)) → number w ≡ number v → w ≡ v
unfolding number
alike [] [] f g e = refl
alike [] (y ∷ v) f g e = absurd (let s = g 0 (omega arith) in omega arith)
alike (x ∷ w) [] f g e = absurd (let s = f 0 (omega arith) in omega arith)
alike (x ∷ w) (y ∷ v) f g e =
    let s = f 0 (omega arith) in
    let t = g 0 (omega arith) in
    let a : x ≡ y = omega arith in
    let b = alike w v (λ i h. f (suc i) (omega arith)) (λ i h. g (suc i) (omega arith)) (omega arith) in
    (λ k. a k ∷ b k)

pub name_alike : {w v : List ℕ} → Name w → Name v → number w ≡ number v → w ≡ v
name_alike {w} {v} n m e = alike w v n.letters m.letters e

pub same_yes : (w : List ℕ) → same_text w w ≡ true
unfolding same_text
same_yes [] = refl
same_yes (b ∷ w) = sym (and_skip (eq_yes b b refl) (sym (same_yes w)))

pub same_is : (w v : List ℕ) → same_text w v ≡ true → w ≡ v
unfolding same_text
same_is [] [] e = refl
same_is [] (y ∷ v) e = untrue e
same_is (x ∷ w) [] e = untrue e
same_is (x ∷ w) (y ∷ v) e = let a = and_yes e in let b = yes_eq x y a.0 in let c = same_is w v a.1 in (λ k. b k ∷ c k)

-- names of other numbers are other names
pub same_no : (w v : List ℕ) → (number w ≡ number v → ⊥) → same_text w v ≡ false
same_no w v n = go (same_text w v) refl
  where
    go : (b : Bool) → same_text w v ≡ b → b ≡ false
    go true e = absurd (n (ap number (same_is w v e)))
    go false e = refl

-- ---- tests as they are made ----

pub good_name_law : {b : Bool} (w : List ℕ) → 1 ≤ length w → length w ≤ 8 → b ≡ having (λ b. outside b 97 122) w → not b ≡ good_name w
unfolding good_name outside
good_name_law w h l e = ap not (or_skip (sym (or_skip (lt_no (length w) 1 h) (sym (lt_no 8 (length w) l)))) e)

pub empty_name : (w : List ℕ) → length w < 1 → false ≡ good_name w
unfolding good_name outside
empty_name w h = sym (ap not (or_left (having (λ b. outside b 97 122) w) (or_left (8 <? length w) (lt_yes (length w) 1 h))))

pub long_name : (w : List ℕ) → 8 < length w → false ≡ good_name w
unfolding good_name outside
long_name w h = sym (ap not (or_left (having (λ b. outside b 97 122) w) (or_right (length w <? 1) (lt_yes 8 (length w) h))))

module _ (word l : List ℕ) {five : List ℕ} {t : Bool} (e : five ≡ take 5 l) (f : t ≡ same_text five word) where
  pub other_word : t ≡ false → false ≡ is_named word l
  unfolding is_named
  other_word q = and_miss _ (sym (f ∙ ap (λ (x : List ℕ). same_text x word) e) ∙ q)

  pub its_name : t ≡ true → {w : List ℕ} → w ≡ drop 5 l → {r : Bool} → r ≡ good_name w → r ≡ is_named word l
  unfolding is_named
  its_name q g h = and_skip (sym (f ∙ ap (λ (x : List ℕ). same_text x word) e) ∙ q) (h ∙ ap good_name g)
