-- Arithmetic and comparison cells made again: a cell that was found, or made, is found; one that is folded is folded to the same constants,
-- since no cell that is made begins with its key. Assumes nothing.
use Rattle.std.specs.Prelude.{◌≡◌, refl, Bool, ℕ, ◌<◌}
use Rattle.std.proofs.Common.{le_trans, arith}
use mathlib.Core.List.{List}
use Rattle.std.proofs.Math.Option.{Option, none, some}
use Rattle.spec_model.specs.Words.{absent, Netlist}
use Rattle.spec_model.specs.Builder.{ArithmeticOp, constant_value, constant_values, carry_value, fold_by, fold_constant_arithmetic}
use Rattle.law_nets.specs.Sound.{count, CarryBelow, Sound}
use Rattle.law_nets.specs.Nodes.{constant_there}

-- ---- arithmetic ----

-- whether a cell is folded does not go by its operation
pub fold_any : (op op' : ArithmeticOp) (lhs rhs : List ℕ) (carry : Option ℕ) (l : Netlist) (vs : List Bool) → fold_constant_arithmetic op lhs rhs carry l ≡ none
    → fold_constant_arithmetic op' lhs rhs carry l ≡ some vs → ⊥
unfolding fold_constant_arithmetic
fold_any op op' lhs rhs carry l vs e f = go (carry_value l carry) (constant_values l lhs) (constant_values l rhs) e f
  where
    go : (o : Option Bool) (a b : Option (List Bool)) → fold_by op o a b ≡ none → fold_by op' o a b ≡ some vs → ⊥
    go none a b e f = let z : ◌≡◌ {A = ℕ} 0 1 = cc in absurd (omega arith)
    go (some v) none b e f = let z : ◌≡◌ {A = ℕ} 0 1 = cc in absurd (omega arith)
    go (some v) (some x) none e f = let z : ◌≡◌ {A = ℕ} 0 1 = cc in absurd (omega arith)
    go (some v) (some x) (some y) e f = let z : ◌≡◌ {A = ℕ} 0 1 = cc in absurd (omega arith)

-- the carry of a cell that is folded is a net
pub fold_carry : (op : ArithmeticOp) (lhs rhs : List ℕ) (carry : Option ℕ) (l : Netlist) (vs : List Bool) → fold_constant_arithmetic op lhs rhs carry l ≡ some vs → CarryBelow (count l) carry
unfolding fold_constant_arithmetic
fold_carry op lhs rhs none l vs e = tt
fold_carry op lhs rhs (some n) l vs e = go (constant_value l n) refl e
  where
    go : (o : Option Bool) → constant_value l n ≡ o → fold_by op o (constant_values l lhs) (constant_values l rhs) ≡ some vs → n < count l
    go none q e = let z : ◌≡◌ {A = ℕ} 0 1 = cc in absurd (omega arith)
    go (some v) q e = constant_there l n v q

pub carry_low : (l : Netlist) → Sound l → (carry : Option ℕ) → CarryBelow (count l) carry → CarryBelow absent carry
carry_low l q none b = tt
carry_low l q (some n) b = le_trans b (le_trans q.few q.small)
