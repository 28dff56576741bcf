-- A table cleared word by word, or its first n words at once. Assumes nothing.
use Rattle.std.specs.Prelude.{ℕ, ◌+◌, ◌<◌, ◌≤◌, Bool, true, false, ◌≡◌, refl, List, ◌++◌, length, take, drop, replicate, get_or, set}
use Rattle.std.proofs.Common.{ap, ◌∙◌, ⊎_elim, eq-or-lt_of_le, arith, get_or-set_same, get_or-set_other}
use Rattle.std.proofs.lemmas.List.{get_or_append_left, get_or-replicate, length-replicate, length-take-le}
use Rattle.spec_tests.specs.Rules.{◌≡?◌}
use Rattle.spec_tests.specs.Laws.{yes_eq, no_eq}

-- cleared up to i, and one more
pub clear_more : (table : List ℕ) (i x : ℕ) → i < length table → ((y : ℕ) → y < i → get_or table y 0 ≡ 0) → x < i + 1 → get_or (set table i 0) x 0 ≡ 0
clear_more table i x h f l = go (x ≡? i) refl
  where
    go : (b : Bool) → (x ≡? i) ≡ b → get_or (set table i 0) x 0 ≡ 0
    go true q = ap (λ (k : ℕ). get_or (set table i 0) k 0) (yes_eq x i q) ∙ get_or-set_same table i 0 0 h
    go false q =
        let n = no_eq x i q in
        get_or-set_other table i x 0 0 n ∙ f x (⊎_elim (λ (e : x ≡ i). absurd (n e)) (λ (b : x < i). b) (eq-or-lt_of_le (omega arith)))

pub cleared_word : (table new : List ℕ) (n x : ℕ) → n ≤ length table → new ≡ replicate (length (take n table)) 0 → x < n → get_or (new ++ drop n table) x 0 ≡ 0
cleared_word table new n x h e l =
    let z : length (take n table) ≡ n = length-take-le n table h in
    let zeros : new ≡ replicate n 0 = e ∙ ap (λ (k : ℕ). replicate k 0) z in
    let long : length new ≡ n = ap length zeros ∙ length-replicate n 0 in
    get_or_append_left new (drop n table) 0 x (omega arith) ∙ (ap (λ (xs : List ℕ). get_or xs x 0) zeros ∙ get_or-replicate n x 0 0 l)
