-- A table that gets wanted words: whatever is stored at net j is the word wanted there. Assumes nothing.
use Rattle.std.specs.Prelude.{ℕ, zero, suc, ◌+◌, ◌<◌, ◌≡◌, refl, ◌⊎◌, List, [], ◌∷◌, length, drop, get_or, set}
use Rattle.std.proofs.Common.{not-suc-le-zero, arith, sym, ap, ◌∙◌, inl, inr, ⊎_elim, length-set, get_or-set_same, get_or-set_other, get_or-drop}
use Rattle.std.proofs.Math.Decide.{ℕ_discrete}
use Rattle.trace_step.specs.Words.{spread}

pub record Moves (want : ℕ → ℕ) (w w' : List ℕ) : Type 0 where
  pub long : length w' ≡ length w
  pub keeps : (j : ℕ) → get_or w j 0 ≡ want j → get_or w' j 0 ≡ want j
  pub only : (j : ℕ) → (get_or w' j 0 ≡ get_or w j 0) ⊎ (get_or w' j 0 ≡ want j)

pub moves_none : (want : ℕ → ℕ) (w : List ℕ) → Moves want w w
moves_none want w = record { long = refl; keeps = λ j e. e; only = λ j. inl refl }

pub moves_then : {want : ℕ → ℕ} {u v w : List ℕ} → Moves want u v → Moves want v w → Moves want u w
moves_then {want} {u} {v} {w} a b = record {
  long = b.long ∙ a.long;
  keeps = λ j e. b.keeps j (a.keeps j e);
  only = λ j. ⊎_elim (λ (e : get_or w j 0 ≡ get_or v j 0). ⊎_elim (λ (f : get_or v j 0 ≡ get_or u j 0). inl (e ∙ f)) (λ (f : get_or v j 0 ≡ want j). inr (e ∙ f)) (a.only j)) (λ (e : get_or w j 0 ≡ want j). inr e) (b.only j);
}

pub moves_set : (want : ℕ → ℕ) (w : List ℕ) (x b : ℕ) → x < length w → b ≡ want x → Moves want w (set w x b) × (get_or (set w x b) x 0 ≡ want x)
moves_set want w x b h e = (record { long = length-set w x b; keeps = keep; only = one }, get_or-set_same w x b 0 h ∙ e)
  where
    here : (j : ℕ) → j ≡ x → get_or (set w x b) j 0 ≡ want j
    here j f = ap (λ (k : ℕ). get_or (set w x b) k 0) f ∙ get_or-set_same w x b 0 h ∙ e ∙ ap want (sym f)

    keep : (j : ℕ) → get_or w j 0 ≡ want j → get_or (set w x b) j 0 ≡ want j
    keep j f = elim (ℕ_discrete j x) [
      | yes z ↦ here j z
      | no z ↦ get_or-set_other w x j b 0 z ∙ f
    ]

    one : (j : ℕ) → (get_or (set w x b) j 0 ≡ get_or w j 0) ⊎ (get_or (set w x b) j 0 ≡ want j)
    one j = elim (ℕ_discrete j x) [
      | yes z ↦ inr (here j z)
      | no z ↦ inl (get_or-set_other w x j b 0 z)
    ]

-- nets that get words in turn, each the one wanted
pub moves_spread : (want : ℕ → ℕ) (f : ℕ → ℕ) (w ns xs : List ℕ) → ((i : ℕ) → i < length ns → (get_or ns i 0 < length w) × (f (get_or xs i 0) ≡ want (get_or ns i 0)))
    → Moves want w (spread f w ns xs) × ((i : ℕ) → i < length ns → get_or (spread f w ns xs) (get_or ns i 0) 0 ≡ want (get_or ns i 0))
unfolding spread
moves_spread want f w [] xs h = (moves_none want w, λ i l. absurd (not-suc-le-zero l))
moves_spread want f w (n ∷ ns) xs h =
    let one = moves_set want w n (f (get_or xs 0 0)) (h 0 (omega arith)).0 (h 0 (omega arith)).1 in
    let l = one.0.long in
    let rest = moves_spread want f (set w n (f (get_or xs 0 0))) ns (drop 1 xs) (λ i k. (let z = h (suc i) (omega arith) in
    let a = z.0 in
    let e : get_or (drop 1 xs) i 0 ≡ get_or xs (suc i) 0 = get_or-drop 1 xs i 0 ∙ ap (λ (j : ℕ). get_or xs j 0) (let y : 1 + i ≡ suc i = omega arith in y) in
    (omega arith, ap f e ∙ z.1))) in
    (moves_then one.0 rest.0, each rest one.1)
  where
    each : Moves want (set w n (f (get_or xs 0 0))) (spread f (set w n (f (get_or xs 0 0))) ns (drop 1 xs)) × ((i : ℕ) → i < length ns → get_or (spread f (set w n (f (get_or xs 0 0))) ns (drop 1 xs)) (get_or ns i 0) 0 ≡ want (get_or ns i 0))
        → get_or (set w n (f (get_or xs 0 0))) n 0 ≡ want n
        → (i : ℕ) → i < length (n ∷ ns) → get_or (spread f (set w n (f (get_or xs 0 0))) ns (drop 1 xs)) (get_or (n ∷ ns) i 0) 0 ≡ want (get_or (n ∷ ns) i 0)
    each rest e zero l = rest.0.keeps n e
    each rest e (suc i) l = rest.1 i (omega arith)
