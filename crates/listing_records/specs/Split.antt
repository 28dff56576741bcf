-- The records that a list is cut into, one after another.
use Rattle.std.specs.Prelude.{ℕ, zero, suc, ◌+◌, ◌-◌, ◌≤◌, ◌<◌, Bool, true, false, ◌≡◌, refl, length, take, drop, get_or}
use mathlib.Core.List.{List, [], ◌∷◌, ◌++◌, map}
use Rattle.std.proofs.Common.{sym, ap, ◌∙◌, arith, length-take, drop_of_length-le, take_all, drop-drop}
use Rattle.std.proofs.Math.ListN.{length-drop}
use Rattle.std.proofs.Math.Seq.{drop-length}
use Rattle.spec_tests.specs.Rules.{pick}
use Rattle.spec_rules.specs.NetlistImage.{record_length, split, records_of}
use Rattle.spec_rules.specs.Listing.{together, record_line}
use Rattle.listing_text.specs.Text.{Wrote, wrote_same, Writing, writing_all, writing_more, writing_done}

-- ---- a record has one word at least ----

at_least : (t : Bool) (a b : ℕ) → 1 ≤ a → 1 ≤ b → 1 ≤ pick t a b
unfolding pick
at_least true a b h l = h
at_least false a b h l = l

pub record_some : (l : List ℕ) → 1 ≤ length l → 1 ≤ record_length l
unfolding record_length
record_some l h =
    at_least _ _ _ (omega arith) (at_least _ _ _ (omega arith) (at_least _ _ _ (omega arith) (at_least _ _ _ (omega arith) (at_least _ _ _ (omega arith) h))))

-- ---- so the list's length is enough ----

abbrev records_in : List ℕ → List (List ℕ)
records_in l = split (length l) l

enough : (n m : ℕ) (l : List ℕ) → length l ≤ n → length l ≤ m → split n l ≡ split m l
unfolding split
enough zero zero l h k = refl
enough zero (suc m) [] h k = refl
enough zero (suc m) (x ∷ l) h k = absurd (omega arith)
enough (suc n) zero [] h k = refl
enough (suc n) zero (x ∷ l) h k = absurd (omega arith)
enough (suc n) (suc m) [] h k = refl
enough (suc n) (suc m) (x ∷ l) h k =
    let e = length-drop (record_length (x ∷ l)) (x ∷ l) in
    let p = record_some (x ∷ l) (omega arith) in
    ap (λ (rs : List (List ℕ)). take (record_length (x ∷ l)) (x ∷ l) ∷ rs)
    (enough n m (drop (record_length (x ∷ l)) (x ∷ l)) (omega arith) (omega arith))

records_next : (l : List ℕ) → 1 ≤ length l → records_in l ≡ take (record_length l) l ∷ records_in (drop (record_length l) l)
unfolding split
records_next [] h = absurd (omega arith)
records_next (x ∷ l) h =
    let e = length-drop (record_length (x ∷ l)) (x ∷ l) in
    let p = record_some (x ∷ l) h in
    ap (λ (rs : List (List ℕ)). take (record_length (x ∷ l)) (x ∷ l) ∷ rs)
    (enough (length l) (length (drop (record_length (x ∷ l)) (x ∷ l))) (drop (record_length (x ∷ l)) (x ∷ l)) (omega arith) (omega arith))

-- ---- where a record ends ----

pub record Ends (l : List ℕ) (i e : ℕ) : Type 0 where
  pub after : i < e
  pub within : e ≤ length l
  pub words : take (e - i) (drop i l) ≡ take (record_length (drop i l)) (drop i l)
  pub rest : drop e l ≡ drop (record_length (drop i l)) (drop i l)

pub ends_inside : (l : List ℕ) (i : ℕ) {r : List ℕ} {n : ℕ} → i < length l → r ≡ drop i l → n ≡ record_length r → n < length r → Ends l i (i + n)
ends_inside l i {r} {n} h e f k =
    let g : n ≡ record_length (drop i l) = f ∙ ap record_length e in
    let d = ap length e ∙ length-drop i l in
    let p = record_some (drop i l) (omega (arith, length-drop i l)) in
    let z : i + n - i ≡ n = omega arith in
    record {
      after = omega arith;
      within = omega arith;
      words = rw z (ap (λ (m : ℕ). take m (drop i l)) g);
      rest = sym (drop-drop n i l) ∙ ap (λ (m : ℕ). drop m (drop i l)) g;
    }

pub ends_last : (l : List ℕ) (i : ℕ) {r : List ℕ} {n : ℕ} → i < length l → r ≡ drop i l → n ≡ record_length r → length r ≤ n → Ends l i (length l)
ends_last l i {r} {n} h e f k =
    let g : n ≡ record_length (drop i l) = f ∙ ap record_length e in
    let a = ap length e in
    let d = length-drop i l in
    record {
      after = h;
      within = omega arith;
      words = take_all (length l - i) (drop i l) (omega arith) ∙ sym (take_all (record_length (drop i l)) (drop i l) (omega arith));
      rest = drop-length l ∙ sym (drop_of_length-le (drop i l) {i = record_length (drop i l)} (omega arith));
    }

-- ---- the lines of a list's records: those before i are written ----

unfoldable pub lines_of : List ℕ → List ℕ → List ℕ
lines_of s l = together (map (record_line s) (records_in l))

pub record Lines (s l : List ℕ) (o : List ℕ) (at : ℕ) (o₁ : List ℕ) (to i : ℕ) : Type 0 where
  pub within : i ≤ length l
  pub writing : Writing o at (lines_of s l) o₁ to (lines_of s (drop i l))

module _ (s l : List ℕ) where
  pub lines_start : (o : List ℕ) (at : ℕ) → at ≤ length o → Lines s l o at o at 0
  lines_start o at h = record { within = omega arith; writing = writing_all o at _ h }

  next : (i e : ℕ) → i < length l → Ends l i e → lines_of s (drop i l) ≡ record_line s (take (e - i) (drop i l)) ++ lines_of s (drop e l)
  unfolding lines_of together
  next i e h k = rw (k.words, k.rest) (ap (λ (rs : List (List ℕ)). together (map (record_line s) rs)) (records_next (drop i l) (omega (arith, length-drop i l))))

  pub lines_more : {o : List ℕ} {at : ℕ} {o₁ : List ℕ} {to i e : ℕ} {r o₂ : List ℕ} {to' : ℕ} → i < length l → Ends l i e → r ≡ take (e - i) (drop i l)
      → Lines s l o at o₁ to i → Wrote o₁ to (record_line s r) o₂ to' → Lines s l o at o₂ to' e
  lines_more {i = i} {e = e} h k f w q = record { within = k.within; writing = writing_more (next i e h k) w.writing (rw f at q) }

  pub lines_end : {o : List ℕ} {at : ℕ} {o₁ : List ℕ} {to i : ℕ} → length l ≤ i → Lines s l o at o₁ to i → Wrote o at (lines_of s l) o₁ to
  unfolding lines_of together split
  lines_end h w = writing_done (ap (lines_of s) (drop_of_length-le l h)) w.writing

-- the image's records are those of its list words
pub records_wrote : (s ws : List ℕ) {n m : ℕ} {l : List ℕ} → n ≡ get_or ws 3 0 → m ≡ get_or ws 4 0 → l ≡ take n (drop m ws) → {o : List ℕ} {at : ℕ} {o' : List ℕ} {r : ℕ}
    → Wrote o at (lines_of s l) o' r → Wrote o at (together (map (record_line s) (records_of ws))) o' r
unfolding lines_of records_of
records_wrote s ws {n} {m} {l} e f g h =
    let k = take (get_or ws 3 0) (drop (get_or ws 4 0) ws) in
    let i : l ≡ k = g ∙ rw (e, f) in
    wrote_same (ap (λ (rs : List (List ℕ)). together (map (record_line s) rs))
    (enough (get_or ws 3 0) (length k) k (omega (arith, length-take (get_or ws 3 0) (drop (get_or ws 4 0) ws))) (omega arith))) (rw i at h)
