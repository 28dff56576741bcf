-- Characters read and written. Assumes nothing.
use Rattle.std.specs.Prelude.{ℕ, suc, ◌+◌, ◌≤◌, ◌<◌, ◌≡◌, refl, Bool, true, false, List, [], ◌∷◌, ◌++◌, map, eqb, length, take, get_or, set}
use Rattle.std.proofs.Common.{not-suc-le-zero, arith, sym, ap, ◌∙◌, length-set, get_or-set_same, get_or-set_other, take-suc, take_all}
use Rattle.std.proofs.Math.Decide.{dec_lt, ℕ_discrete}
use Rattle.std.proofs.Math.ListN.{get_or-eq_default}
use Rattle.spec_rtl.specs.Word.{bit}
use Rattle.spec_tests.specs.Laws.{eq_same, eq_no}
use Rattle.spec_trace.specs.Trace.{digit}
use Rattle.listing_text.specs.Text.{Wrote, wrote_none, wrote_more, wrote_same}
use Rattle.trace_line.specs.Step.{char}

pub digit_yes : (b : Bool) → b ≡ true → 49 ≡ digit b
unfolding digit
digit_yes b e = sym (ap digit e)

pub digit_no : (b : Bool) → b ≡ false → 48 ≡ digit b
unfolding digit
digit_no b e = sym (ap digit e)

pub char_in : {x y r : ℕ} → x ≡ y → r ≡ bit (eqb x 49) → r ≡ char y
char_in e f = f ∙ ap bit (eq_same e refl)

pub char_past : (l : List ℕ) (i : ℕ) → length l ≤ i → 0 ≡ char (get_or l i 0)
char_past l i h = sym (ap char (get_or-eq_default l 0 {n = i} h) ∙ ap bit (eq_no 0 49 (λ e. absurd (omega arith))))

-- ---- a copy ----

pub record Copied (v o : List ℕ) (i : ℕ) : Type 0 where
  pub long : length o ≡ length v
  pub up_to : i ≤ length v
  pub same : (j : ℕ) → j < i → get_or o j 0 ≡ get_or v j 0

pub copied_start : {v o : List ℕ} → length o ≡ length v → Copied v o 0
copied_start e = record { long = e; up_to = omega arith; same = λ j h. absurd (not-suc-le-zero h) }

same_lists : (xs ys : List ℕ) → length xs ≡ length ys → ((j : ℕ) → j < length ys → get_or xs j 0 ≡ get_or ys j 0) → xs ≡ ys
same_lists [] [] e f = refl
same_lists [] (y ∷ ys) e f = absurd (omega arith)
same_lists (x ∷ xs) [] e f = absurd (omega arith)
same_lists (x ∷ xs) (y ∷ ys) e f = ap (λ (z : ℕ). z ∷ xs) (f 0 (omega arith)) ∙ ap (λ (z : List ℕ). y ∷ z) (same_lists xs ys (omega arith) (λ j h. f (suc j) (omega arith)))

pub copied_end : {v o : List ℕ} {i : ℕ} → Copied v o i → length v ≤ i → o ≡ v
copied_end {v} {o} c h = same_lists o v c.long (λ j l. c.same j (omega arith))

-- ---- characters one after the other ----

abbrev chars : (ℕ → ℕ) → List ℕ → ℕ → List ℕ
chars f ns i = map f (take i ns)

map_snoc : (f : ℕ → ℕ) (xs : List ℕ) (x : ℕ) → map f (xs ++ (x ∷ [])) ≡ map f xs ++ (f x ∷ [])
map_snoc f [] x = refl
map_snoc f (y ∷ xs) x = ap (λ (z : List ℕ). f y ∷ z) (map_snoc f xs x)

pub print_start : (f : ℕ → ℕ) (ns : List ℕ) {o : List ℕ} {at : ℕ} → at ≤ length o → Wrote o at (map f (take 0 ns)) o at
print_start f ns {o} {at} h = wrote_none o at h

pub print_more : (f : ℕ → ℕ) (ns : List ℕ) (i : ℕ) → i < length ns → {o : List ℕ} {at : ℕ} {o₁ : List ℕ} {a : ℕ} {o₂ : List ℕ} {b x : ℕ} → Wrote o at (map f (take i ns)) o₁ a → x ≡ f (get_or ns i 0) → Wrote o₁ a (x ∷ []) o₂ b → Wrote o at (map f (take (i + 1) ns)) o₂ b
print_more f ns i h {x = x} w e u =
    let z : i + 1 ≡ suc i = omega arith in
    wrote_same (ap (λ (k : ℕ). map f (take k ns)) z ∙ ap (map f) (take-suc ns i 0 h) ∙ map_snoc f (take i ns) (get_or ns i 0) ∙ ap (λ (k : ℕ). map f (take i ns) ++ (k ∷ [])) (sym e)) (wrote_more w u)

pub print_end : (f : ℕ → ℕ) (ns : List ℕ) (i : ℕ) → length ns ≤ i → {o : List ℕ} {at : ℕ} {o₁ : List ℕ} {a : ℕ} {o₂ : List ℕ} {b : ℕ} → Wrote o at (map f (take i ns)) o₁ a → Wrote o₁ a (10 ∷ []) o₂ b → Wrote o at (map f ns ++ (10 ∷ [])) o₂ b
print_end f ns i h w u = wrote_same (ap (λ (l : List ℕ). map f l ++ (10 ∷ [])) (sym (take_all i ns h))) (wrote_more w u)

pub copied_more : {v o : List ℕ} {i : ℕ} → Copied v o i → i < length v → Copied v (set o i (get_or v i 0)) (i + 1)
copied_more {v} {o} {i} c h = record {
  long = length-set o i (get_or v i 0) ∙ c.long;
  up_to = omega arith;
  same = λ j l. elim (ℕ_discrete j i) [
    | yes e ↦ ap (λ (k : ℕ). get_or (set o i (get_or v i 0)) k 0) e ∙ get_or-set_same o i (get_or v i 0) 0 (let q = c.long in omega arith) ∙ ap (λ (k : ℕ). get_or v k 0) (sym e)
    | no e ↦ get_or-set_other o i j (get_or v i 0) 0 e ∙ c.same j (below j i l e)
  ];
}
  where
    below : (j i : ℕ) → j < i + 1 → (j ≡ i → ⊥) → j < i
    below j i l e = elim (dec_lt j i) [
      | yes b ↦ b
      | no b ↦ absurd (e (omega arith))
    ]
