-- Words laid from a place on, and rows of a memory. Assumes nothing.
use Rattle.std.specs.Prelude.{ℕ, zero, suc, ◌+◌, ◌*◌, ◌≤◌, ◌<◌, ◌≡◌, refl, List, [], ◌∷◌, length, get_or, set}
use Rattle.std.proofs.Common.{not-suc-le-zero, arith, ap, ◌∙◌, length-set, get_or-set_same, get_or-set_other}
use Rattle.trace_step.specs.Words.{laid}
use Rattle.trace_memory.specs.Ports.{row_in}

pub laid_long : (m : List ℕ) (a : ℕ) (xs : List ℕ) → length (laid m a xs) ≡ length m
unfolding laid
laid_long m a [] = refl
laid_long m a (x ∷ xs) = laid_long (set m a x) (suc a) xs ∙ length-set m a x

pub laid_below : (m : List ℕ) (a : ℕ) (xs : List ℕ) (j : ℕ) → j < a → get_or (laid m a xs) j 0 ≡ get_or m j 0
unfolding laid
laid_below m a [] j h = refl
laid_below m a (x ∷ xs) j h = laid_below (set m a x) (suc a) xs j (omega arith) ∙ get_or-set_other m a j x 0 (λ e. absurd (omega arith))

pub laid_above : (m : List ℕ) (a : ℕ) (xs : List ℕ) (j : ℕ) → a + length xs ≤ j → get_or (laid m a xs) j 0 ≡ get_or m j 0
unfolding laid
laid_above m a [] j h = refl
laid_above m a (x ∷ xs) j h = laid_above (set m a x) (suc a) xs j (omega arith) ∙ get_or-set_other m a j x 0 (λ e. absurd (omega arith))

pub laid_at : (m : List ℕ) (a : ℕ) (xs : List ℕ) (i : ℕ) → i < length xs → a + length xs ≤ length m → get_or (laid m a xs) (a + i) 0 ≡ get_or xs i 0
unfolding laid
laid_at m a [] i h l = absurd (not-suc-le-zero h)
laid_at m a (x ∷ xs) zero h l =
    let e : a + 0 ≡ a = omega arith in
    ap (λ (k : ℕ). get_or (laid (set m a x) (suc a) xs) k 0) e ∙ laid_below (set m a x) (suc a) xs a (omega arith) ∙ get_or-set_same m a x 0 (omega arith)
laid_at m a (x ∷ xs) (suc i) h l =
    let e : a + suc i ≡ suc a + i = omega arith in
    let n = length-set m a x in
    ap (λ (k : ℕ). get_or (laid (set m a x) (suc a) xs) k 0) e ∙ laid_at (set m a x) (suc a) xs i (omega arith) (omega arith)

-- row a of a memory is apart from row b
pub row_before : (a b w i : ℕ) → a < b → i < w → a * w + i < b * w
row_before a b w i h l = let r = row_in a b w h in omega arith
