-- Signal bits that are not marked: how many there are at the start, and that a mark leaves one fewer. Assumes nothing.
use Rattle.std.specs.Prelude.{◌≡◌, refl, Bool, true, false, List, [], ◌∷◌, map, ℕ, zero, suc, ◌+◌, ◌≤◌, ◌<◌, length, get_or, set, replicate}
use Rattle.std.proofs.Common.{not-suc-le-zero, le_of_suc-le-suc, arith}
use Rattle.spec_rtl.specs.Rtl as R
use Rattle.spec_rtl.specs.Rtl.{Module, Sig}
use Rattle.spec_model.specs.Lowering.{State, cell, put, mark, signal_width, sum_widths, start}
use Rattle.law_walk.specs.Tables.{Shaped, put_shaped}
use Rattle.law_phases.specs.Sources.{shaped}

abbrev unmarked_row : List Bool → ℕ
unmarked_row [] = 0
unmarked_row (true ∷ r) = unmarked_row r
unmarked_row (false ∷ r) = suc (unmarked_row r)

abbrev pub unmarked : List (List Bool) → ℕ
unmarked [] = 0
unmarked (r ∷ t) = unmarked_row r + unmarked t

-- the marks have the signals' shape, and at most u bits are without one
pub record Under (m : Module) (u : ℕ) (st : State) : Type 0 where
  pub marks : Shaped (length m.signals) (signal_width m) st.resolving
  pub few : unmarked st.resolving ≤ u

pub under_more : {m : Module} {u v : ℕ} {st : State} → u ≤ v → Under m u st → Under m v st
under_more h i = record { marks = i.marks; few = omega (arith, i.few) }

-- ---- one mark more ----

row_mark : (r : List Bool) (j : ℕ) → j < length r → get_or r j false ≡ false → suc (unmarked_row (set r j true)) ≡ unmarked_row r
row_mark [] j h e = absurd (not-suc-le-zero h)
row_mark (true ∷ r) zero h e = let z : ◌≡◌ {A = ℕ} 0 1 = cc in absurd (omega arith)
row_mark (false ∷ r) zero h e = refl
row_mark (true ∷ r) (suc j) h e = row_mark r j (le_of_suc-le-suc h) e
row_mark (false ∷ r) (suc j) h e = omega (arith, row_mark r j (le_of_suc-le-suc h) e)

put_mark : (t : List (List Bool)) (i j : ℕ) → i < length t → j < length (get_or t i []) → cell false t i j ≡ false → suc (unmarked (put t i j true)) ≡ unmarked t
put_mark [] i j h k e = absurd (not-suc-le-zero h)
put_mark (r ∷ t) zero j h k e = omega (arith, row_mark r j k e)
put_mark (r ∷ t) (suc i) j h k e = omega (arith, put_mark t i j (le_of_suc-le-suc h) k e)

pub mark_fewer : {m : Module} {u : ℕ} {st : State} (s b : ℕ) → Under m u st → s < length m.signals → b < signal_width m s → cell false st.resolving s b ≡ false
    → (v : ℕ) × (v < u) × Under m v (mark st s b)
unfolding mark
mark_fewer {m} {u} {st} s b i h k e =
    let q = put_mark st.resolving s b (omega (arith, i.marks.rows)) (omega (arith, i.marks.cells s h)) e in
    (unmarked (put st.resolving s b true), omega (arith, i.few), record { marks = put_shaped st.resolving s b true i.marks; few = omega arith })

-- ---- at the start ----

row_start : (w : ℕ) → unmarked_row (replicate w false) ≡ w
row_start zero = refl
row_start (suc w) = omega (arith, row_start w)

all_start : (ss : List Sig) → unmarked (map (λ s. replicate s.width false) ss) ≡ sum_widths ss
all_start [] = refl
all_start (s ∷ ss) = omega (arith, row_start s.width, all_start ss)

pub start_under : (m : Module) (n p : ℕ) → Under m (sum_widths m.signals) (start m n p)
unfolding start
start_under m n p = record {
  marks = shaped false (λ (s : Sig). s.width) m.signals (record { width = 0; dir = R.Internal }) (signal_width m) (λ i. refl);
  few = omega (arith, all_start m.signals);
}
