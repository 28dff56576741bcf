-- Laws of the lists of needs: their lengths, their elements, and what is left of them. Assumes nothing.
use Rattle.std.specs.Prelude.{◌≡◌, refl, Bool, true, false, cond, List, [], ◌∷◌, ◌++◌, map, ℕ, zero, suc, ◌+◌, ◌-◌, ◌≤◌, ◌<◌, min, max, ltb, length, get_or, drop}
use Rattle.std.proofs.Common.{sym, ap, ap₂, ◌∙◌, add-one, arith, drop-cons, ltb-true, ltb-false}
use Rattle.spec_tests.specs.Rules.{list_of}
use Rattle.spec_rtl.specs.Rtl.{Expr}
use Rattle.spec_model.specs.Builder.{from}
use Rattle.spec_model.specs.Ranges.{width_at}
use Rattle.spec_model.specs.Lowering as M
use Rattle.spec_model.specs.Lowering.{signal_steps, wholes, backwards, pieces}
use Rattle.scratch_view.specs.Rows.{length_list_of, at_list_of}
use Rattle.walk_plan.specs.Plan.{step_needs, piece_step, part_needs}

-- an element and what is behind it
pub need_next : (ns : List M.Need) (k : ℕ) (x : M.Need) → k < length ns → get_or ns k (M.Whole 0) ≡ x → drop k ns ≡ x ∷ drop (k + 1) ns
need_next ns k x h e = drop-cons ns k (M.Whole 0) h ∙ ap₂ (λ (y : M.Need) (j : ℕ). y ∷ drop j ns) e (sym (add-one k))

-- ---- bits of a signal ----

pub signal_length : (p b w : ℕ) → length (step_needs (signal_steps p b w)) ≡ w
unfolding signal_steps from
signal_length p b zero = refl
signal_length p b (suc w) = ap suc (signal_length p (suc b) w)

signal_at_law : (p b w k : ℕ) → k < w → get_or (step_needs (signal_steps p b w)) k (M.Whole 0) ≡ M.Bit p (b + k)
unfolding signal_steps from
signal_at_law p b zero k h = absurd (omega arith)
signal_at_law p b (suc w) zero h = ap (M.Bit p) (omega arith)
signal_at_law p b (suc w) (suc k) h = signal_at_law p (suc b) w k (omega arith) ∙ ap (M.Bit p) (omega arith)

pub signal_next : (p b w k : ℕ) → k < w → drop k (step_needs (signal_steps p b w)) ≡ M.Bit p (b + k) ∷ drop (k + 1) (step_needs (signal_steps p b w))
signal_next p b w k h = need_next (step_needs (signal_steps p b w)) k (M.Bit p (b + k)) (rw (signal_length p b w) h) (signal_at_law p b w k h)

-- ---- parts, the last first ----

length_back : (ps acc : List ℕ) → length (backwards ps acc) ≡ length ps + length acc
length_back [] acc = omega arith
length_back (p ∷ ps) acc = length_back ps (p ∷ acc) ∙ omega arith

back_past : (ps acc : List ℕ) (k : ℕ) → get_or (backwards ps acc) (length ps + k) 0 ≡ get_or acc k 0
back_past [] acc k = ap (λ (j : ℕ). get_or acc j 0) (omega arith)
back_past (p ∷ ps) acc k =
    ap (λ (j : ℕ). get_or (backwards ps (p ∷ acc)) j 0) {x = suc (length ps) + k} {y = length ps + suc k} (omega arith) ∙ back_past ps (p ∷ acc) (suc k)

back_at : (ps acc : List ℕ) (k : ℕ) → k < length ps → get_or (backwards ps acc) k 0 ≡ get_or ps (length ps - 1 - k) 0
back_at [] acc k h = absurd (omega arith)
back_at (p ∷ ps) acc k h = go (ltb k (length ps)) refl (λ l. back_at ps (p ∷ acc) k l)
  where
    go : (t : Bool) → ltb k (length ps) ≡ t → (k < length ps → get_or (backwards ps (p ∷ acc)) k 0 ≡ get_or ps (length ps - 1 - k) 0)
        → get_or (backwards ps (p ∷ acc)) k 0 ≡ get_or (p ∷ ps) (suc (length ps) - 1 - k) 0
    go true e ih =
        let l : k < length ps = ltb-true _ _ e in
        let j : suc (length ps) - 1 - k ≡ suc (length ps - 1 - k) = omega arith in
        ih l ∙ ap (λ (j : ℕ). get_or (p ∷ ps) j 0) (sym j)
    go false e ih =
        let l : length ps ≤ k = ltb-false _ _ e in
        let j : suc (length ps) - 1 - k ≡ 0 = omega arith in
        ap (λ (j : ℕ). get_or (backwards ps (p ∷ acc)) j 0) {x = k} {y = length ps + 0} (omega arith) ∙ back_past ps (p ∷ acc) 0
        ∙ ap (λ (j : ℕ). get_or (p ∷ ps) j 0) (sym j)

module _ (n : ℕ) (f : ℕ → ℕ) where
  pub low_length : length (backwards (list_of n f) []) ≡ n
  low_length = length_back (list_of n f) [] ∙ omega (arith, length_list_of n f)

  low_at : (k : ℕ) → k < n → get_or (backwards (list_of n f) []) k 0 ≡ f (n - 1 - k)
  low_at k h =
      let l = length_list_of n f in
      back_at (list_of n f) [] k (omega arith) ∙ ap (λ (m : ℕ). get_or (list_of n f) (m - 1 - k) 0) l ∙ at_list_of n f (n - 1 - k) 0 (omega arith)

  pub low_next : (k : ℕ) → k < n → drop k (backwards (list_of n f) []) ≡ f (n - 1 - k) ∷ drop (k + 1) (backwards (list_of n f) [])
  low_next k h =
      drop-cons (backwards (list_of n f) []) k 0 (rw low_length h)
      ∙ ap₂ (λ (y j : ℕ). y ∷ drop j (backwards (list_of n f) [])) (low_at k h) (sym (add-one k))

-- ---- wholes ----

pub wholes_length : (es : List ℕ) → length (step_needs (wholes es)) ≡ length es
wholes_length [] = refl
wholes_length (e ∷ es) = ap suc (wholes_length es)

pub wholes_drop : (es : List ℕ) (k : ℕ) → drop k (step_needs (wholes es)) ≡ step_needs (wholes (drop k es))
wholes_drop es zero = refl
wholes_drop [] (suc k) = refl
wholes_drop (e ∷ es) (suc k) = wholes_drop es k

-- ---- pieces of a Concat ----

pub piece_next : (xs : List Expr) (lsb end at p v : ℕ) (ps : List ℕ) → width_at xs p ≡ v
    → step_needs (map piece_step (pieces xs lsb end at (p ∷ ps))) ≡ part_needs lsb end at p v ++ step_needs (map piece_step (pieces xs lsb end (at + v) ps))
unfolding pieces part_needs
piece_next xs lsb end at p v ps e = rw e (go (ltb (max lsb at) (min end (at + v))))
  where
    go : (t : Bool) → step_needs (map piece_step (cond t (record { part = p; lsb = max lsb at - at; width = min end (at + v) - max lsb at } ∷ pieces xs lsb end (at + v) ps) (pieces xs lsb end (at + v) ps)))
        ≡ cond t (M.Range p (max lsb at - at) (min end (at + v) - max lsb at) ∷ []) [] ++ step_needs (map piece_step (pieces xs lsb end (at + v) ps))
    go true = refl
    go false = refl
