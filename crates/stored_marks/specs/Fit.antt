-- A memory's ports one after the other: what is left of their words at each. Assumes nothing.
use Rattle.std.specs.Prelude.{ℕ, suc, ◌+◌, ◌-◌, ◌<◌, ◌≤◌, ◌≡◌, refl, List, Bool, false, not, length, drop, get_or}
use Rattle.std.proofs.Common.{sym, ap, ◌∙◌, drop-drop, arith}
use Rattle.spec_tests.specs.Rules.{◌<?◌, ◌or◌}
use Rattle.spec_tests.specs.Laws.{or_hit, pick_hit, pick_skip, lt_yes, lt_no, eq_yes, eq_no}
use Rattle.spec_rules.specs.NetlistImage.{port_length, record_length}
use Rattle.spec_netlist.specs.Accept.{ports_length, extent}

pub ports_none : (l : List ℕ) → ports_length 0 l ≡ 0
unfolding ports_length
ports_none l = refl

ports_suc : (n : ℕ) (l : List ℕ) → ports_length (suc n) l ≡ port_length l + ports_length n (drop (port_length l) l)
unfolding ports_length
ports_suc n l = refl

-- from word at on, with n ports less i left: one port more
pub ports_more : (l : List ℕ) (n i at : ℕ) → i < n → ports_length (n - i) (drop at l) ≡ port_length (drop at l) + ports_length (n - (i + 1)) (drop (at + port_length (drop at l)) l)
ports_more l n i at h =
    let e : n - i ≡ suc (n - (i + 1)) = omega arith in
    ap (λ (k : ℕ). ports_length k (drop at l)) e
    ∙ (ports_suc (n - (i + 1)) (drop at l) ∙ ap (λ (t : List ℕ). port_length (drop at l) + ports_length (n - (i + 1)) t) (drop-drop (port_length (drop at l)) at l))

pub ports_start : (l : List ℕ) (n : ℕ) → 6 + ports_length n (drop 6 l) ≡ 6 + ports_length (n - 0) (drop 6 l)
ports_start l n = ap (λ (k : ℕ). 6 + ports_length k (drop 6 l)) (omega arith)

-- one port of k words is passed
pub ports_passed : (l : List ℕ) (total n i at k : ℕ) → i < n → k ≡ port_length (drop at l) → total ≡ at + ports_length (n - i) (drop at l) → total ≡ at + k + ports_length (n - (i + 1)) (drop (at + k) l)
ports_passed l total n i at k h e q =
    let m = ports_more l n i at h in
    let r : total ≡ at + port_length (drop at l) + ports_length (n - (i + 1)) (drop (at + port_length (drop at l)) l) = omega arith in
    r ∙ ap (λ (j : ℕ). at + j + ports_length (n - (i + 1)) (drop (at + j) l)) (sym e)

-- all are passed
pub ports_ended : (l : List ℕ) (total n i at : ℕ) → n ≤ i → total ≡ at + ports_length (n - i) (drop at l) → total ≡ at
ports_ended l total n i at h q =
    let e : n - i ≡ 0 = omega arith in
    let z = ap (λ (k : ℕ). ports_length k (drop at l)) e ∙ ports_none (drop at l) in
    omega arith

-- the test of a record's first word
fits_cases : {a b x y : Bool} → a ≡ false → x ≡ not b → b ≡ y → x ≡ not (a or y)
unfolding ◌or◌
fits_cases e p q = rw (p, q, e)

pub fits_sort : (l : List ℕ) → 4 < get_or l 0 0 → false ≡ not ((4 <? get_or l 0 0) or (length l <? extent l))
fits_sort l h = ap not (or_hit _ (lt_yes _ _ h))

pub fits_ports : (l : List ℕ) {x : Bool} → get_or l 0 0 ≡ 2 → x ≡ not (length l <? 6 + ports_length (get_or l 5 0) (drop 6 l)) → x ≡ not ((4 <? get_or l 0 0) or (length l <? extent l))
unfolding extent
fits_ports l e p = fits_cases (lt_no _ _ (omega arith)) p (ap (λ (k : ℕ). length l <? k) (pick_hit _ (eq_yes _ _ e) refl))

pub fits_other : (l : List ℕ) {x : Bool} → get_or l 0 0 ≤ 4 → (get_or l 0 0 ≡ 2 → ⊥) → x ≡ not (length l <? record_length l) → x ≡ not ((4 <? get_or l 0 0) or (length l <? extent l))
unfolding extent
fits_other l h n p = fits_cases (lt_no _ _ h) p (ap (λ (k : ℕ). length l <? k) (pick_skip _ (eq_no _ _ n) refl))
