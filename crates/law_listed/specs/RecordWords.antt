-- Each word of a port's, a register's and a cell's record is right. Assumes nothing.
use Prim.Native.Nat.{ℕ, zero, suc, ◌+◌, ◌*◌, ◌-◌, ◌≤◌, ◌<◌}
use Rattle.std.proofs.Common.{not-suc-le-zero, inl, inr, ◌∙◌, length-drop, take-add, drop-drop}
use native.Mathlib.Omega.{arith}
use Rattle.std.proofs.Math.Decide.{ℕ_discrete}
use Rattle.std.specs.Prelude.{◌⊎◌, ◌≡◌, Bool, true, false, List, [], ◌∷◌, ◌++◌, length, take, drop}
use Rattle.std.proofs.Math.Path.{refl, ap}
use Rattle.std.proofs.Math.Bool.{not}
use Rattle.std.proofs.Math.Option.{none, some}
use Rattle.std.proofs.Math.ListN.{get_or}
use Rattle.std.proofs.lemmas.List.{take-append-le, drop-append-le}
use Rattle.spec_tests.specs.Rules.{◌<?◌, ◌≡?◌, ◌≢?◌, ◌or◌, ◌and◌, pick}
use Rattle.spec_tests.specs.Laws.{lt_yes, lt_no, eq_yes, eq_no, ne_no}
use Rattle.spec_rules.specs.Image.{optional}
use Rattle.spec_model.specs.Words.{absent}
use Rattle.word_laws.specs.Widths.{AllBelow}
use Rattle.law_nets.specs.Sound.{CarryBelow}
use Rattle.spec_netlist.specs.Accept.{wrong_level, not_above}
use Rattle.law_told.specs.Told.{neither, pick_yes, pick_no}
use Rattle.law_listed.specs.Listed.{Level}

pub level_right : (x v : ℕ) → Level x v → wrong_level x v ≡ false
unfolding wrong_level
level_right x v h = go (ℕ_discrete x absent)
  where
    go : Dec (x ≡ absent) → pick (x ≡? absent) (v ≢? 0) (1 <? v) ≡ false
    go (yes e) = pick_yes (x ≡? absent) _ _ (eq_yes x absent e) ∙ ne_no v 0 (h.none e)
    go (no e) = pick_no (x ≡? absent) _ _ (eq_no x absent e) ∙ lt_no 1 v h.some

pub below_above : (x : ℕ) (ys : List ℕ) → AllBelow x ys → not_above x ys ≡ false
unfolding not_above
below_above x [] b = refl
below_above x (y ∷ ys) b = neither _ _ (ap not (lt_yes y x b.0)) (below_above x ys b.1)

pub below_join : (x : ℕ) (ys zs : List ℕ) → AllBelow x ys → AllBelow x zs → AllBelow x (ys ++ zs)
below_join x [] zs a b = b
below_join x (y ∷ ys) zs a b = (a.0, below_join x ys zs a.1 b)

pub below_get : (x : ℕ) (ys : List ℕ) (i : ℕ) → i < length ys → AllBelow x ys → get_or ys i 0 < x
below_get x [] i h b = absurd (not-suc-le-zero h)
below_get x (y ∷ ys) zero h b = b.0
below_get x (y ∷ ys) (suc i) h b = below_get x ys i (omega arith) b.1

-- a stretch of a record that is followed by others
pub stretch : (r rest : List ℕ) (p w : ℕ) → p + w ≤ length r → take w (drop p (r ++ rest)) ≡ take w (drop p r)
stretch r rest p w h =
    let d = length-drop p r in
    ap (take w) (drop-append-le p r rest (omega arith)) ∙ take-append-le w (drop p r) rest (omega arith)

pub two_stretches : (r : List ℕ) (p w : ℕ) → take (2 * w) (drop p r) ≡ take w (drop p r) ++ take w (drop (p + w) r)
two_stretches r p w =
    let e : 2 * w ≡ w + w = omega arith in
    ap (λ (k : ℕ). take k (drop p r)) e ∙ take-add w w (drop p r) ∙ ap (λ (z : List ℕ). take w (drop p r) ++ take w z) (drop-drop w p r)

pub carry_of_law : (x c : ℕ) → CarryBelow x (optional c c) → (c ≡ absent) ⊎ (c < x)
unfolding optional
carry_of_law x c h = go (ℕ_discrete c absent)
  where
    go : Dec (c ≡ absent) → (c ≡ absent) ⊎ (c < x)
    go (yes e) = inl e
    go (no e) = inr (rw (pick_no (c ≡? absent) none (some c) (eq_no c absent e)) at h)

pub and_second_no : (a b : Bool) → b ≡ false → (a and b) ≡ false
unfolding ◌and◌
and_second_no true b e = e
and_second_no false b e = refl
