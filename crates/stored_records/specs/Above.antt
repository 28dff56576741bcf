-- The least net above all of a list: a net is not above them all exactly if it is below that one. Assumes nothing.
use Rattle.std.specs.Prelude.{ℕ, ◌+◌, suc, ◌-◌, ◌≤◌, ◌<◌, max, Bool, true, false, not, ◌≡◌, refl, List, [], ◌∷◌, length, take, drop, get_or, fold}
use Rattle.std.proofs.Common.{sym, ap, ◌∙◌, arith, add-one, drop-cons}
use Rattle.spec_tests.specs.Rules.{◌<?◌, ◌≡?◌, ◌≢?◌, ◌or◌, ◌and◌, pick}
use Rattle.spec_tests.specs.Laws.{lt_yes, lt_no, yes_lt, no_lt}
use Rattle.spec_rules.specs.Image.{absent}
use Rattle.spec_netlist.specs.Accept.{not_above}

unfoldable pub above_all : ℕ → List ℕ → ℕ
above_all m [] = m
above_all m (y ∷ ys) = above_all (max m (y + 1)) ys

-- above a carry, if there is one
unfoldable pub above_carry : ℕ → ℕ
above_carry c = pick (c ≡? absent) 0 (c + 1)

or_none : (a : Bool) → a ≡ (a or false)
unfolding ◌or◌
or_none true = refl
or_none false = refl

or_join : (a b r : Bool) → ((a or b) or r) ≡ (a or (b or r))
unfolding ◌or◌
or_join true b r = refl
or_join false b r = refl

-- x is below the higher of m and y + 1
below_max : (x m y : ℕ) → (x <? max m (y + 1)) ≡ (x <? m or not (y <? x))
unfolding ◌or◌
below_max x m y = go (x <? m) refl (y <? x) refl
  where
    go : (a : Bool) → (x <? m) ≡ a → (b : Bool) → (y <? x) ≡ b → (x <? max m (y + 1)) ≡ (a or not b)
    go true e b f = lt_yes _ _ (omega (arith, yes_lt x m e))
    go false e true f = lt_no _ _ (omega (arith, no_lt x m e, yes_lt y x f))
    go false e false f = lt_yes _ _ (omega (arith, no_lt y x f))

above_all_law : (x m : ℕ) (ys : List ℕ) → (x <? above_all m ys) ≡ (x <? m or not_above x ys)
unfolding above_all not_above
above_all_law x m [] = or_none _
above_all_law x m (y ∷ ys) =
    above_all_law x (max m (y + 1)) ys ∙ (ap (λ (t : Bool). t or not_above x ys) (below_max x m y) ∙ or_join (x <? m) (not (y <? x)) (not_above x ys))

pub not_above_law : (x : ℕ) (ys : List ℕ) → not_above x ys ≡ (x <? above_all 0 ys)
unfolding ◌or◌
not_above_law x ys = sym (above_all_law x 0 ys ∙ ap (λ (t : Bool). t or not_above x ys) (lt_no x 0 (omega arith)))

below_carry : (x c : ℕ) → (x <? above_carry c) ≡ (c ≢? absent and not (c <? x))
unfolding above_carry ◌≢?◌ ◌≡?◌ ◌and◌ pick
below_carry x c = go (c ≡? absent) (c <? x) refl
  where
    go : (a b : Bool) → (c <? x) ≡ b → (x <? pick a 0 (c + 1)) ≡ (not a and not b)
    go true b f = lt_no x 0 (omega arith)
    go false true f = lt_no _ _ (omega (arith, yes_lt c x f))
    go false false f = lt_yes _ _ (omega (arith, no_lt c x f))

-- with a carry among the inputs
pub not_above_carry : (x c : ℕ) (ys : List ℕ) → ((c ≢? absent and not (c <? x)) or not_above x ys) ≡ (x <? above_all (above_carry c) ys)
not_above_carry x c ys = sym (above_all_law x (above_carry c) ys ∙ ap (λ (t : Bool). t or not_above x ys) (below_carry x c))

-- the loop over the words a to e - 1 of l
pub above_none : (l : List ℕ) (m i e : ℕ) → i ≡ e → above_all m (take (e - i) (drop i l)) ≡ m
unfolding above_all
above_none l m i e h =
    let z : e - i ≡ 0 = omega arith in
    rw z

pub above_more : (l : List ℕ) (m n i e : ℕ) → i < e → e ≤ length l → n ≡ max m (get_or l i 0 + 1)
    → above_all m (take (e - i) (drop i l)) ≡ above_all n (take (e - (i + 1)) (drop (i + 1) l))
unfolding above_all
above_more l m n i e h f g =
    let z : e - i ≡ suc (e - suc i) = omega arith in
    let y : i + 1 ≡ suc i = add-one i in
    rw (z, drop-cons l i 0 (omega arith), g, y)

-- the same by a fold
pub fold_above : (m : ℕ) (ys : List ℕ) → fold (λ n y. max n (y + 1)) m ys ≡ above_all m ys
unfolding above_all
fold_above m [] = refl
fold_above m (y ∷ ys) = fold_above (max m (y + 1)) ys
