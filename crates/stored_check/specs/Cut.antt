-- A slice that is longer than its list words used is answered as it is when it is cut there. Assumes nothing.
use Rattle.std.specs.Prelude.{ℕ, ◌+◌, ◌<◌, ◌≤◌, Bool, true, false, ◌≡◌, refl, List, length, take, drop}
use Rattle.std.proofs.Common.{sym, ap, ◌∙◌, arith, take-append-drop, length-take-le, get_or-take}
use Rattle.spec_tests.specs.Rules.{◌<?◌, pick}
use Rattle.spec_tests.specs.Laws.{pick_hit, pick_skip, lt_yes, lt_no, yes_lt, no_lt}
use Rattle.spec_netlist.specs.Accept.{used, list_at_of, accepts}
use Rattle.law_told.specs.Behind.{only_these}

-- where the list words used end, as the header says it; the slice's length where the slice or that end is shorter than a header
unfoldable pub list_end : List ℕ → ℕ
list_end ws = pick (length ws <? 16) (length ws) (pick (list_at_of ws + used ws <? 16) (length ws) (list_at_of ws + used ws))

pub end_short : (ws : List ℕ) → length ws < 16 → length ws ≡ list_end ws
unfolding list_end
end_short ws h = pick_hit _ (lt_yes _ _ h) refl

pub end_none : (ws : List ℕ) → 16 ≤ length ws → list_at_of ws + used ws < 16 → length ws ≡ list_end ws
unfolding list_end
end_none ws h l = pick_skip _ (lt_no _ _ h) (pick_hit _ (lt_yes _ _ l) refl)

pub end_told : (ws : List ℕ) → 16 ≤ length ws → 16 ≤ list_at_of ws + used ws → list_at_of ws + used ws ≡ list_end ws
unfolding list_end
end_told ws h l = pick_skip _ (lt_no _ _ h) (pick_skip _ (lt_no _ _ l) refl)

-- the words behind do not matter
cut : (ws : List ℕ) (n : ℕ) → n ≡ list_at_of ws + used ws → 16 ≤ n → n < length ws → accepts (take n ws) ≡ accepts ws
cut ws n e h l =
    let m = length-take-le n ws (omega arith) in
    let a : list_at_of (take n ws) ≡ list_at_of ws = get_or-take n ws 4 0 (omega arith) in
    let u : used (take n ws) ≡ used ws = get_or-take n ws 3 0 (omega arith) in
    sym (only_these (take n ws) (drop n ws) (omega arith) (omega arith)) ∙ ap accepts (take-append-drop n ws)

pub end_cut : (ws : List ℕ) (n : ℕ) → n ≡ list_end ws → n < length ws → accepts (take n ws) ≡ accepts ws
end_cut ws n e h = go (length ws <? 16) refl (list_at_of ws + used ws <? 16) refl
  where
    go : (a : Bool) → (length ws <? 16) ≡ a → (b : Bool) → (list_at_of ws + used ws <? 16) ≡ b → accepts (take n ws) ≡ accepts ws
    go true p b q = absurd (omega (arith, end_short ws (yes_lt _ _ p)))
    go false p true q = absurd (omega (arith, end_none ws (no_lt _ _ p) (yes_lt _ _ q)))
    go false p false q =
        let t = end_told ws (no_lt _ _ p) (no_lt _ _ q) in
        let l = no_lt _ _ q in
        cut ws n (omega arith) (omega arith) h

-- cut once, it ends there: it is not cut again
pub end_once : (ws : List ℕ) (n : ℕ) → n ≡ list_end ws → n < length ws → list_end (take n ws) ≡ length (take n ws)
end_once ws n e h = go (length ws <? 16) refl (list_at_of ws + used ws <? 16) refl
  where
    go : (a : Bool) → (length ws <? 16) ≡ a → (b : Bool) → (list_at_of ws + used ws <? 16) ≡ b → list_end (take n ws) ≡ length (take n ws)
    go true p b q = absurd (omega (arith, end_short ws (yes_lt _ _ p)))
    go false p true q = absurd (omega (arith, end_none ws (no_lt _ _ p) (yes_lt _ _ q)))
    go false p false q =
        let t = end_told ws (no_lt _ _ p) (no_lt _ _ q) in
        let l = no_lt _ _ q in
        let m = length-take-le n ws (omega arith) in
        let a : list_at_of (take n ws) ≡ list_at_of ws = get_or-take n ws 4 0 (omega arith) in
        let u : used (take n ws) ≡ used ws = get_or-take n ws 3 0 (omega arith) in
        sym (end_told (take n ws) (omega arith) (omega arith)) ∙ omega arith
