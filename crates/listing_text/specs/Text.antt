-- What it is to write a text into a buffer, and how a line and a number are written piece by piece.
use Rattle.std.specs.Prelude.{ℕ, zero, suc, ◌+◌, ◌-◌, ◌/◌, ◌%◌, ◌≤◌, ◌<◌, List, [], ◌∷◌, ◌++◌, ◌≡◌, refl, Bool, true, false, min, length, take, drop, get_or, set}
use Rattle.std.proofs.Common.{append_assoc, append-nil, sym, ap, ◌∙◌, arith, add-one, length-set, length-append, take_all, length-take-le, length-drop, take-suc, take-suc-set}
use Rattle.std.proofs.lemmas.List.{take-append-le}
use Rattle.std.proofs.Math.Seq.{take-append-add}
use Rattle.std.proofs.Math.Decide.{dec_le}
use Rattle.std.proofs.lemmas.Slice.{take-put_mid}
use borrow.Rule.Slice.PartMut.{put_mid, mid_of, same_len_mid}
use Rattle.spec_tests.specs.Rules.{pick, ◌<?◌}
use Rattle.spec_tests.specs.Laws.{lt_yes, lt_no, no_lt, pick_hit, pick_skip}
use Rattle.spec_rules.specs.Listing.{text, digits, decimal, line}

-- t was written from at on into a buffer that held o and now holds o', cut at its end; r is the next place
pub record Wrote {A : Type 0} (o : List A) (at : ℕ) (t : List A) (o' : List A) (r : ℕ) : Type 0 where
  pub size : length o' ≡ length o
  pub upto : r ≤ length o'
  pub text : take r o' ≡ take (length o) (take at o ++ t)

-- ---- the laws
cut : (n : ℕ) (x y : List ℕ) → take n (take n x ++ y) ≡ take n (x ++ y)
cut zero x y = refl
cut (suc n) [] y = refl
cut (suc n) (a ∷ x) y = ap (λ (l : List ℕ). a ∷ l) (cut n x y)

-- nothing, and one text after another
pub wrote_none : (o : List ℕ) (at : ℕ) → at ≤ length o → Wrote o at [] o at
wrote_none o at h =
    record { size = refl; upto = h; text = rw append-nil (sym (take_all (length o) (take at o) (rw (length-take-le at o h) h))) }

pub wrote_more : {o : List ℕ} {a : ℕ} {t o₁ : List ℕ} {b : ℕ} {u o₂ : List ℕ} {c : ℕ} → Wrote o a t o₁ b → Wrote o₁ b u o₂ c → Wrote o a (t ++ u) o₂ c
wrote_more {o} {a} {t} {o₁} {b} {u} {o₂} {c} p q = record {
  size = q.size ∙ p.size;
  upto = q.upto;
  text = q.text ∙ rw (p.size, p.text) (cut (length o) (take a o ++ t) u ∙ ap (take (length o)) (append_assoc (take a o) t u));
}

pub wrote_byte : (o : List ℕ) (at b : ℕ) → at < length o → Wrote o at (b ∷ []) (set o at b) (at + 1)
wrote_byte o at b h = record {
  size = length-set o at b;
  upto = rw length-set (omega arith);
  text = rw (add-one, take-suc-set o at b h) (sym (take_all (length o) (take at o ++ (b ∷ [])) (omega (arith, length-append (take at o) (b ∷ []), length-take-le at o (omega arith)))));
}

pub wrote_full : (o : List ℕ) (at b : ℕ) → length o ≤ at → at ≤ length o → Wrote o at (b ∷ []) o at
wrote_full o at b h l = record {
  size = refl;
  upto = l;
  text = let e = length-take-le at o l in sym (take-append-le (length o) (take at o) (b ∷ []) (omega arith) ∙ take_all (length o) (take at o) (omega arith));
}

fuel : (k m n : ℕ) → n < k → n < m → digits k n ≡ digits m n
unfolding digits pick
fuel zero m n h l = absurd (omega arith)
fuel (suc k) zero n h l = absurd (omega arith)
fuel (suc k) (suc m) n h l = go (n <? 10) refl (fuel k m (n / 10))
  where
    go : (b : Bool) → (n <? 10) ≡ b → (n / 10 < k → n / 10 < m → digits k (n / 10) ≡ digits m (n / 10))
        → pick b ((48 + n) ∷ []) (digits k (n / 10) ++ ((48 + n % 10) ∷ [])) ≡ pick b ((48 + n) ∷ []) (digits m (n / 10) ++ ((48 + n % 10) ∷ []))
    go true e ih = refl
    go false e ih =
        let g = no_lt n 10 e in
        ap (λ (d : List ℕ). d ++ ((48 + n % 10) ∷ [])) (ih (omega arith) (omega arith))

pub digits_one : (n : ℕ) → n < 10 → decimal n ≡ (48 + n) ∷ []
unfolding decimal digits
digits_one n h = sym (pick_hit _ (lt_yes n 10 h) refl)

pub digits_more : (n : ℕ) → 10 ≤ n → decimal n ≡ decimal (n / 10) ++ ((48 + n % 10) ∷ [])
unfolding decimal digits
digits_more n h = sym (pick_skip _ (lt_no n 10 h) (ap (λ (d : List ℕ). d ++ ((48 + n % 10) ∷ [])) (fuel (suc (n / 10)) n (n / 10) (omega arith) (omega arith))))

-- a loop over a text's bytes: one more, and all
pub wrote_step : {o : List ℕ} {at : ℕ} (i : ℕ) (t : List ℕ) {o₁ : List ℕ} {b : ℕ} {o₂ : List ℕ} {c : ℕ} → i < length t → Wrote o at (take i t) o₁ b → Wrote o₁ b (get_or t i 0 ∷ []) o₂ c → Wrote o at (take (i + 1) t) o₂ c
wrote_step i t h p q = rw (add-one, take-suc t i 0 h) (wrote_more p q)

pub wrote_all : {o : List ℕ} {at : ℕ} (i : ℕ) (t : List ℕ) {o₁ : List ℕ} {b : ℕ} → length t ≤ i → Wrote o at (take i t) o₁ b → Wrote o at t o₁ b
wrote_all i t h p = rw (take_all i t h) at p

-- the same text by another name
pub wrote_same : {o : List ℕ} {at : ℕ} {t u o₁ : List ℕ} {b : ℕ} → u ≡ t → Wrote o at t o₁ b → Wrote o at u o₁ b
wrote_same e p = rw e p

-- ---- lines: a word, then each further word behind a space, then the line's end

unfoldable pub spaced : List (List ℕ) → List ℕ
spaced [] = []
spaced (w ∷ ws) = (32 ∷ w) ++ spaced ws

pub line_spaced : (w : List ℕ) (ws : List (List ℕ)) → line (w ∷ ws) ≡ w ++ (spaced ws ++ (10 ∷ []))
unfolding line spaced
line_spaced w [] = refl
line_spaced w (v ∷ ws) = ap (λ (t : List ℕ). w ++ (32 ∷ t)) (line_spaced v ws ∙ sym (append_assoc v (spaced ws) (10 ∷ [])))

pub spaced_append : (vs ws : List (List ℕ)) → spaced (vs ++ ws) ≡ spaced vs ++ spaced ws
unfolding spaced
spaced_append [] ws = refl
spaced_append (v ∷ vs) ws = ap (λ (t : List ℕ). (32 ∷ v) ++ t) (spaced_append vs ws) ∙ sym (append_assoc (32 ∷ v) (spaced vs) (spaced ws))

-- of the text that was to be written from at on, rest remains to be written from to on
pub record Writing (o : List ℕ) (at : ℕ) (t : List ℕ) (o₁ : List ℕ) (to : ℕ) (rest : List ℕ) : Type 0 where
  pub size : length o₁ ≡ length o
  pub upto : to ≤ length o₁
  pub text : take (length o) (take to o₁ ++ rest) ≡ take (length o) (take at o ++ t)

pub writing_all : (o : List ℕ) (at : ℕ) (t : List ℕ) → at ≤ length o → Writing o at t o at t
writing_all o at t h = record { size = refl; upto = h; text = refl }

pub writing_more : {o : List ℕ} {at : ℕ} {t o₁ : List ℕ} {a : ℕ} {rest u v o₂ : List ℕ} {b : ℕ} → rest ≡ u ++ v → Writing o at t o₁ a rest → Wrote o₁ a u o₂ b → Writing o at t o₂ b v
writing_more {o} {at} {t} {o₁} {a} {rest} {u} {v} {o₂} {b} e p q = record {
  size = q.size ∙ p.size;
  upto = q.upto;
  text =
      rw (q.text, p.size) (cut (length o) (take a o₁ ++ u) v ∙ ap (take (length o)) (append_assoc (take a o₁) u v ∙ ap (λ (x : List ℕ). take a o₁ ++ x) (sym e)) ∙ p.text);
}

pub writing_done : {o : List ℕ} {at : ℕ} {t o₁ : List ℕ} {a : ℕ} {rest : List ℕ} → rest ≡ [] → Writing o at t o₁ a rest → Wrote o at t o₁ a
writing_done {o} {at} {t} {o₁} {a} {rest} e p = record {
  size = p.size;
  upto = p.upto;
  text =
      let n = p.size in
      let h = p.upto in
      let l = length-take-le a o₁ h in
      sym (take_all (length o) (take a o₁) (omega arith)) ∙ ap (take (length o)) (sym (append-nil (take a o₁)) ∙ ap (λ (x : List ℕ). take a o₁ ++ x) (sym e)) ∙ p.text;
}

-- ---- a refusal ----

abbrev pub refusal_text : ℕ → ℕ → ℕ → List ℕ
refusal_text n a b = text "refused" ++ ((32 ∷ decimal n) ++ ((32 ∷ decimal a) ++ ((32 ∷ decimal b) ++ (10 ∷ []))))

-- a list copied to a place, as much of it as has room
pub wrote_copy : {A : Type 0} (o list ys : List A) (at n k : ℕ) → at ≤ length o → n ≡ min (length list) (length o - at) → k ≡ n → ys ≡ take n list → Wrote o at list (put_mid at k o ys) (at + n)
wrote_copy {A} o list ys at n k h en ek ey =
    let ly : length ys ≡ n = ap length ey ∙ length-take-le n list (omega arith) in
    let la : length (take at o) ≡ at = length-take-le at o h in
    let lm : length (mid_of at k o) ≡ k = length-take-le k (drop at o) (let d = length-drop at o in omega arith) in
    let lo : length (put_mid at k o ys) ≡ length o = same_len_mid at k o ys (omega arith) in
    let t : take (at + n) (put_mid at k o ys) ≡ take at o ++ ys = take-put_mid at k o ys (at + n) (omega arith) h in
    let m : length o ≡ length (take at o) + (length o - at) = omega arith in
    let r : take (length o) (take at o ++ list) ≡ take at o ++ take (length o - at) list =
    ap (λ (i : ℕ). take i (take at o ++ list)) m ∙ take-append-add (take at o) list (length o - at) in
    record {
      size = lo;
      upto = omega arith;
      text = t ∙ ap (λ (l : List A). take at o ++ l) (ey ∙ few) ∙ sym r;
    }
  where
    few : take n list ≡ take (length o - at) list
    few = elim (dec_le (length list) (length o - at)) [
      | yes l ↦ (let e : n ≡ length list = omega arith in take_all n list (omega arith) ∙ sym (take_all (length o - at) list l))
      | no l ↦ ap (λ (i : ℕ). take i list) (omega arith)
    ]

-- a text for which there is room stands there whole
pub wrote_whole : {o t o' : List ℕ} {r : ℕ} → Wrote o 0 t o' r → length t ≤ length o → take r o' ≡ t
wrote_whole {o} {t} w h = w.text ∙ take_all (length o) t h
