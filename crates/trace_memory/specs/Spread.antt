-- Nets that get words in turn, words laid from a place on, the number that nets hold: one element more. Assumes nothing.
use Rattle.std.specs.Prelude.{ℕ, zero, suc, ◌+◌, ◌*◌, ◌^◌, ◌≤◌, ◌<◌, ◌≡◌, refl, Bool, List, [], ◌∷◌, map, length, drop, get_or, set}
use Rattle.std.proofs.Common.{not-suc-le-zero, arith, sym, ap, ◌∙◌, length-drop, get_or-drop, drop-drop, pow_mono}
use Rattle.std.proofs.lemmas.List.{length-map}
use Rattle.spec_rtl.specs.Word.{bit, value, value_lt}
use Rattle.trace_step.specs.Words.{on, spread, laid}

-- a list from place i on
pub cut : (xs : List ℕ) (i : ℕ) → i < length xs → drop i xs ≡ get_or xs i 0 ∷ drop (i + 1) xs
cut [] i h = absurd (not-suc-le-zero h)
cut (x ∷ xs) zero h = let e : 0 + 1 ≡ 1 = omega arith in sym (ap (λ (k : ℕ). x ∷ drop k (x ∷ xs)) e)
cut (x ∷ xs) (suc i) h = let e : suc i + 1 ≡ suc (i + 1) = omega arith in cut xs i (omega arith) ∙ ap (λ (k : ℕ). get_or xs i 0 ∷ drop k (x ∷ xs)) (sym e)

pub none_left : (xs : List ℕ) (i : ℕ) → length xs ≤ i → drop i xs ≡ []
none_left [] zero h = refl
none_left [] (suc i) h = refl
none_left (x ∷ xs) zero h = absurd (omega arith)
none_left (x ∷ xs) (suc i) h = none_left xs i (omega arith)

-- ---- nets that get words ----

-- what is still to be done gives what the whole gives
abbrev pub Spreading : (ℕ → ℕ) → List ℕ → List ℕ → List ℕ → List ℕ → ℕ → Type 0
Spreading f w ns xs w' i = spread f w ns xs ≡ spread f w' (drop i ns) (drop i xs)

pub spread_start : (f : ℕ → ℕ) (w ns xs : List ℕ) → Spreading f w ns xs w 0
spread_start f w ns xs = refl

pub spread_more : (f : ℕ → ℕ) (w ns xs w' : List ℕ) (i : ℕ) → Spreading f w ns xs w' i → i < length ns → {x : ℕ} → x ≡ f (get_or xs i 0) → {w'' : List ℕ} → w'' ≡ set w' (get_or ns i 0) x → Spreading f w ns xs w'' (i + 1)
unfolding spread
spread_more f w ns xs w' i h l {x} ex {w''} e =
    let z : i + 0 ≡ i = omega arith in
    h ∙ ap (λ (l : List ℕ). spread f w' l (drop i xs)) (cut ns i l)
    ∙ ap (λ (l : List ℕ). spread f (set w' (get_or ns i 0) (f (get_or (drop i xs) 0 0))) (drop (i + 1) ns) l) (drop-drop 1 i xs)
    ∙ ap (λ (k : ℕ). spread f (set w' (get_or ns i 0) (f k)) (drop (i + 1) ns) (drop (i + 1) xs)) (get_or-drop i xs 0 0 ∙ ap (λ (k : ℕ). get_or xs k 0) z)
    ∙ ap (λ (l : List ℕ). spread f l (drop (i + 1) ns) (drop (i + 1) xs)) (ap (set w' (get_or ns i 0)) (sym ex) ∙ sym e)

pub spread_end : (f : ℕ → ℕ) (w ns xs w' : List ℕ) (i : ℕ) → Spreading f w ns xs w' i → length ns ≤ i → w' ≡ spread f w ns xs
unfolding spread
spread_end f w ns xs w' i h l = sym (h ∙ ap (λ (z : List ℕ). spread f w' z (drop i xs)) (none_left ns i l))

-- ---- words from a place on ----

abbrev pub Laying : (ℕ → ℕ) → List ℕ → ℕ → List ℕ → List ℕ → ℕ → Type 0
Laying f m a ns m' i = laid m a (map f ns) ≡ laid m' (a + i) (map f (drop i ns))

pub lay_start : (f : ℕ → ℕ) (m : List ℕ) (a : ℕ) (ns : List ℕ) → Laying f m a ns m 0
lay_start f m a ns = let z : a ≡ a + 0 = omega arith in ap (λ (k : ℕ). laid m k (map f ns)) z

pub lay_more : (f : ℕ → ℕ) (m : List ℕ) (a : ℕ) (ns m' : List ℕ) (i : ℕ) → Laying f m a ns m' i → i < length ns → {x : ℕ} → x ≡ f (get_or ns i 0) → {m'' : List ℕ} → m'' ≡ set m' (a + i) x → Laying f m a ns m'' (i + 1)
unfolding laid
lay_more f m a ns m' i h l {x} ex {m''} e =
    let z : suc (a + i) ≡ a + (i + 1) = omega arith in
    h ∙ ap (λ (l : List ℕ). laid m' (a + i) (map f l)) (cut ns i l)
    ∙ ap (λ (k : ℕ). laid (set m' (a + i) (f (get_or ns i 0))) k (map f (drop (i + 1) ns))) z
    ∙ ap (λ (l : List ℕ). laid l (a + (i + 1)) (map f (drop (i + 1) ns))) (ap (set m' (a + i)) (sym ex) ∙ sym e)

pub lay_end : (f : ℕ → ℕ) (m : List ℕ) (a : ℕ) (ns m' : List ℕ) (i : ℕ) → Laying f m a ns m' i → length ns ≤ i → m' ≡ laid m a (map f ns)
unfolding laid
lay_end f m a ns m' i h l = sym (h ∙ ap (λ (z : List ℕ). laid m' (a + i) (map f z)) (none_left ns i l))

-- ---- the number that nets hold ----

pub record Numbering (v ns : List ℕ) (r i : ℕ) : Type 0 where
  pub up_to : i ≤ length ns
  pub is : r ≡ value (map (on v) (drop i ns))

pub numbering_start : (v ns : List ℕ) → Numbering v ns 0 (length ns)
numbering_start v ns = record { up_to = omega arith; is = sym (ap (λ (l : List ℕ). value (map (on v) l)) (none_left ns (length ns) (omega arith))) }

pub numbering_low : {v ns : List ℕ} {r i : ℕ} → length ns ≤ 32 → Numbering v ns r i → r < 4294967296
numbering_low {v} {ns} {r} {i} h n =
    let a = value_lt (map (on v) (drop i ns)) in
    let b = length-map (drop i ns) (on v) in
    let c = length-drop i ns in
    let f : length (map (on v) (drop i ns)) ≤ 32 = omega arith in
    let d : 2 ^ length (map (on v) (drop i ns)) ≤ 2 ^ 32 = pow_mono f in
    let e = n.is in
    omega arith

pub numbering_more : {v ns : List ℕ} {r i : ℕ} → Numbering v ns r i → (j : ℕ) → j + 1 ≡ i → {b : Bool} → b ≡ on v (get_or ns j 0) → {x : ℕ} → x ≡ bit b → Numbering v ns (2 * r + x) j
numbering_more {v} {ns} {r} {i} n j e {b} eb {x} ex =
    let u = n.up_to in
    let f = ap (λ (l : List ℕ). value (map (on v) l)) (cut ns j (omega arith)) in
    let g : r ≡ value (map (on v) (drop (j + 1) ns)) = n.is ∙ ap (λ (k : ℕ). value (map (on v) (drop k ns))) (sym e) in
    let h : x ≡ bit (on v (get_or ns j 0)) = ex ∙ ap bit eb in
    record { up_to = omega arith; is = omega arith }

pub numbering_end : {v ns : List ℕ} {r i : ℕ} → length ns ≤ 32 → Numbering v ns r i → i ≤ 0 → (r ≡ value (map (on v) ns)) × (r < 4294967296)
numbering_end {v} {ns} {r} {i} h n l = let z : i ≡ 0 = omega arith in (n.is ∙ ap (λ (k : ℕ). value (map (on v) (drop k ns))) z, numbering_low h n)
