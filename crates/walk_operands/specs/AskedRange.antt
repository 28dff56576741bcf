-- What must stand in the tables before a range of an expression is made, and what reading its operands gives. Assumes nothing.
use Rattle.std.specs.Prelude.{◌≡◌, Bool, cond, List, [], ◌∷◌, ◌++◌, ℕ, ◌+◌, ◌-◌, ◌≤◌, ◌<◌, min, max, ltb, take}
use Rattle.spec_rules.specs.Image.{count_at_of, expr_width, list_word}
use Rattle.spec_model.specs.Words.{Netlist}
use Rattle.spec_model.specs.Builder.{Made, each, add_not}
use Rattle.spec_model.specs.Lowering.{State, Piece, given, range_nets, piece_nets, range_steps_of}
use Rattle.expr_laws.specs.Exprs.{exprs_of}
use Rattle.scratch_view.specs.View.{state_of}
use Rattle.walk_operands.specs.AskedWhole.{AllWhole, Tabled}

-- n bits from lsb on lie inside expression e
pub record Within (s : List ℕ) (e lsb n : ℕ) : Type 0 where
  pub there : e < count_at_of s 1
  pub inside : lsb + n ≤ expr_width s e

pub record AskedRange (s w : List ℕ) (e lsb n : ℕ) : Type 0 where
  pub tabled : Tabled s w e
  pub least : 1 ≤ n
  pub inside : lsb + n ≤ expr_width s e
  pub whole : AllWhole s w (range_steps_of (exprs_of s) e lsb n)

-- the unary arm of `lower_expression_range`
abbrev pub not_made : Bool → State → ℕ → ℕ → ℕ → ℕ → Made (List ℕ)
not_made t st e a lsb n = cond t (each add_not (range_nets st a lsb n) st.netlist) (given st (range_nets st e lsb n))

-- ---- the parts of a Concat ----

-- the piece of part p, k wide from bit at on, that lies between lsb and end, if there is one
abbrev pub piece : ℕ → ℕ → ℕ → ℕ → ℕ → List Piece
piece p at k lsb end = cond (ltb (max lsb at) (min end (at + k))) (record { part = p; lsb = max lsb at - at; width = min end (at + k) - max lsb at } ∷ []) []

pub record CopiedPiece (s w : List ℕ) (p at lsb end : ℕ) (xs : List ℕ) (to r : ℕ) (xs' : List ℕ) : Type 0 where
  pub width : r ≡ min end (at + expr_width s p) - max lsb at
  pub nets : (l : Netlist) → take (to + r) xs' ≡ take to xs ++ piece_nets (state_of s l w) (piece p at (expr_width s p) lsb end)

pub record PartsIn (s : List ℕ) (start n : ℕ) : Type 0 where
  pub room : start + n ≤ 8192
  pub there : (i : ℕ) → i < n → list_word s (start + i) < count_at_of s 1
