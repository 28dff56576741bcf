-- The pieces of a record line, and how a line is made of them.
use Rattle.std.specs.Prelude.{ℕ, zero, suc, ◌+◌, ◌≤◌, ◌<◌, ◌≡◌, refl, length, drop, get_or}
use mathlib.Core.List.{List, [], ◌∷◌, ◌++◌, map, append_assoc}
use Rattle.std.proofs.Common.{sym, ap, ◌∙◌, add-one, arith, drop_of_length-le}
use Rattle.std.proofs.Math.ListN.{get_or-eq_default}
use Rattle.std.proofs.Math.Seq.{drop-cons}
use Rattle.spec_tests.specs.Laws.{eq_yes, eq_no, pick_hit, pick_skip}
use Rattle.spec_rules.specs.Image.{name_of}
use Rattle.spec_rules.specs.Listing.{text, decimal, line, record_line}
use Rattle.listing_text.specs.Text.{Wrote, wrote_same, spaced, line_spaced, Writing, writing_all, writing_more, writing_done}

-- ---- words in decimal: of them the first i are written ----

pub record Numbers (ns : List ℕ) (o : List ℕ) (at : ℕ) (o₁ : List ℕ) (to i : ℕ) : Type 0 where
  pub within : i ≤ length ns
  pub writing : Writing o at (spaced (map decimal ns)) o₁ to (spaced (map decimal (drop i ns)))

module _ (ns : List ℕ) where
  pub numbers_start : (o : List ℕ) (at : ℕ) → at ≤ length o → Numbers ns o at o at 0
  numbers_start o at h = record { within = omega arith; writing = writing_all o at _ h }

  next : (i : ℕ) → i < length ns → spaced (map decimal (drop i ns)) ≡ (32 ∷ decimal (get_or ns i 0)) ++ spaced (map decimal (drop (i + 1) ns))
  unfolding spaced
  next i h = rw (add-one, drop-cons ns i 0 h)

  pub numbers_more : {o : List ℕ} {at : ℕ} {o₁ : List ℕ} {to i : ℕ} {o₂ : List ℕ} {r : ℕ} → i < length ns → Numbers ns o at o₁ to i
      → Wrote o₁ to (32 ∷ decimal (get_or ns i 0)) o₂ r → Numbers ns o at o₂ r (i + 1)
  numbers_more h l w = record { within = omega arith; writing = writing_more (next _ h) l.writing w }

  pub numbers_end : {o : List ℕ} {at : ℕ} {o₁ : List ℕ} {to i : ℕ} → length ns ≤ i → Numbers ns o at o₁ to i → Wrote o at (spaced (map decimal ns)) o₁ to
  unfolding spaced
  numbers_end {i = i} h l = writing_done (ap (λ (l : List ℕ). spaced (map decimal l)) (drop_of_length-le ns h)) l.writing

-- ---- lines ----

abbrev record_words : List (List ℕ)
record_words = [] ∷ text "register" ∷ text "memory" ∷ text "arithmetic" ∷ text "comparison" ∷ []

unfoldable pub record_word : ℕ → List ℕ
record_word k = get_or record_words k []

pub no_word : (k : ℕ) → 5 ≤ k → record_word k ≡ []
unfolding record_word
no_word k h = get_or-eq_default record_words [] h

pub other_word : (k : ℕ) → (k ≡ 1 → ⊥) → (k ≡ 2 → ⊥) → (k ≡ 3 → ⊥) → (k ≡ 4 → ⊥) → record_word k ≡ []
unfolding record_word
other_word zero a b d e = refl
other_word (suc k) a b d e = get_or-eq_default record_words [] (let h : 5 ≤ suc k = omega arith in h)

unfoldable pub port_line : List ℕ → List ℕ → List ℕ
port_line s r = line (text "port" ∷ name_of s 0 (get_or r 1 0) ∷ map decimal (drop 3 r))

unfoldable pub cell_line : List ℕ → List ℕ
cell_line r = line (record_word (get_or r 0 0) ∷ map decimal (drop 1 r))

pub record_port : (s r : List ℕ) → get_or r 0 0 ≡ 0 → record_line s r ≡ port_line s r
unfolding record_line port_line
record_port s r e = sym (pick_hit _ (eq_yes _ _ e) refl)

pub record_cell : (s r : List ℕ) → (get_or r 0 0 ≡ 0 → ⊥) → record_line s r ≡ cell_line r
unfolding record_line cell_line record_word
record_cell s r h = sym (pick_skip _ (eq_no _ _ h) refl)

port_line_law : (s r : List ℕ) → port_line s r ≡ text "port" ++ ((32 ∷ name_of s 0 (get_or r 1 0)) ++ (spaced (map decimal (drop 3 r)) ++ (10 ∷ [])))
unfolding port_line spaced
port_line_law s r =
    line_spaced _ _ ∙ ap (λ (t : List ℕ). text "port" ++ t) (append_assoc (32 ∷ name_of s 0 (get_or r 1 0)) (spaced (map decimal (drop 3 r))) (10 ∷ []))

-- the pieces one after another, of what was read
pub port_wrote : (s r : List ℕ) {p : ℕ} {name ns : List ℕ} → p ≡ get_or r 1 0 → name ≡ name_of s 0 p → ns ≡ drop 3 r → {o : List ℕ} {at : ℕ} {o' : List ℕ} {to : ℕ}
    → Wrote o at (text "port" ++ ((32 ∷ name) ++ (spaced (map decimal ns) ++ (10 ∷ [])))) o' to → Wrote o at (port_line s r) o' to
port_wrote s r e f g h = wrote_same (port_line_law s r) (rw (f, e, g) at h)

pub cell_wrote : (r : List ℕ) {k : ℕ} {ns : List ℕ} → k ≡ get_or r 0 0 → ns ≡ drop 1 r → {o : List ℕ} {at : ℕ} {o' : List ℕ} {to : ℕ}
    → Wrote o at (record_word k ++ (spaced (map decimal ns) ++ (10 ∷ []))) o' to → Wrote o at (cell_line r) o' to
unfolding cell_line
cell_wrote r e f h = wrote_same (line_spaced _ _) (rw (e, f) at h)
