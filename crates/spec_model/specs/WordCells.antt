-- word_cells.rs: equal cells are made a single time. A cell's key is its record up to its outputs. Assumes nothing.
use Rattle.std.specs.Prelude.{Bool, true, false, List, [], ◌∷◌, ℕ, eqb, length, drop}
use Rattle.std.proofs.Math.Option.{Option, none, some}
use Rattle.spec_model.specs.Words.{Netlist, arithmetic_key, comparison_key}
use Rattle.spec_model.specs.Builder.{Out, Made, or_made, ArithmeticOp, ComparisonOp, arithmetic_word, comparison_word, add_arithmetic, add_comparison}

unfoldable pub begins : List ℕ → List ℕ → Bool
begins [] r = true
begins (x ∷ xs) [] = false
begins (x ∷ xs) (y ∷ r) = elim (eqb x y) [ true ↦ begins xs r | false ↦ false ]

-- the outputs of the cell with that key
unfoldable pub find_cell : List ℕ → List (List ℕ) → Option (List ℕ)
find_cell key [] = none
find_cell key (r ∷ rs) = elim (begins key r) [ true ↦ some (drop (length key) r) | false ↦ find_cell key rs ]

-- `arithmetic`; a key that folds is not kept: it folds again to the same nets
unfoldable pub arithmetic : ArithmeticOp → List ℕ → List ℕ → Option ℕ → Netlist → Made (List ℕ)
arithmetic op lhs rhs carry l = or_made (find_cell (arithmetic_key (arithmetic_word op) lhs rhs carry) l.records) l (add_arithmetic op lhs rhs carry l)

-- `comparison`
unfoldable pub comparison : ComparisonOp → List ℕ → List ℕ → Netlist → Made (List ℕ)
comparison op lhs rhs l = or_made (find_cell (comparison_key (comparison_word op) lhs rhs) l.records) l (add_comparison op lhs rhs l)
