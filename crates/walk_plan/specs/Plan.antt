-- The needs that the answers stand for, and the lists of needs of the lowering model by the code's kinds. Assumes nothing.
use Rattle.std.specs.Prelude.{◌≡◌, cond, List, [], ◌∷◌, ◌++◌, map, ℕ, ◌+◌, ◌*◌, ◌-◌, ◌≤◌, ◌<◌, min, max, ltb, drop, Some, None}
use Rattle.std.specs.Prelude as code
use Rattle.std.proofs.Math.Option.{none}
use Rattle.spec_rules.specs.Image.{count_at_of, signal_width, expr_width, list_word}
use Rattle.spec_model.specs.Ranges.{width_at, class_of}
use Rattle.spec_model.specs.Lowering as M
use Rattle.spec_model.specs.Lowering.{Step, Always, Piece, operand_steps, kind_steps, whole_steps, backwards, pieces, is_bit_not, gate_of, gate_steps}
use Rattle.image_records.specs.Expr.{unary_means, binary_means, kind_means, expression_of}
use Rattle.image_records.specs.declared.UnaryOp.{UnaryOp}
use Rattle.image_records.specs.declared.BinaryOp.{BinaryOp}
use Rattle.image_records.specs.declared.ExprKind.{ExprKind}
use Rattle.image_records.specs.declared.ExprKind.TheVariants as K
use Rattle.expr_laws.specs.Exprs.{exprs_of}
use Rattle.expr_fusion.specs.Fusion.{Inside, parts_of}
use Rattle.walk_view.specs.Met.{step_need}
use Rattle.walk_plan.specs.declared.Need.{Need}
use Rattle.walk_plan.specs.declared.Need.TheVariants.{Bit, Whole, Range}
use Rattle.walk_plan.specs.declared.Turn.{Turn}
use Rattle.walk_plan.specs.declared.Turn.TheVariants.{Lower, Last, Bits, Build}

-- none or one
abbrev pub needs_of : code.Option Need → List M.Need
needs_of (Some (Bit p b)) = M.Bit p b ∷ []
needs_of (Some (Whole e)) = M.Whole e ∷ []
needs_of (Some (Range e lsb w)) = M.Range e lsb w ∷ []
needs_of None = []

abbrev pub step_needs : List Step → List M.Need
step_needs ss = map step_need ss

-- ---- turns ----

-- bits of a signal, the first and how many
abbrev pub bits_needs : ℕ → ℕ → ℕ → List M.Need
bits_needs p b n = step_needs (M.signal_steps p b n)

pub record BitsThere (s : List ℕ) (p b n : ℕ) : Type 0 where
  pub signal : p < count_at_of s 0
  pub room : b + n ≤ signal_width s p
  pub most : b + n ≤ 1024

-- what turn k answers, where rest k at is left before it and at is where the part of a Concat that it takes begins
abbrev pub TurnOf : List ℕ → (ℕ → ℕ → List M.Need) → ℕ → ℕ → Turn → Type 0
TurnOf s rest k at (Lower n at₁) = (rest k at ≡ needs_of n ++ rest (k + 1) at₁) × (at₁ ≤ 1024 * (k + 1))
TurnOf s rest k at (Last n) = rest k at ≡ needs_of (Some n)
TurnOf s rest k at (Bits p b n) = BitsThere s p b n × ((j i : ℕ) → rest j i ≡ drop j (bits_needs p b n))
TurnOf s rest k at Build = rest k at ≡ []

-- where all of a list is lowered, one by one
abbrev pub TurnIn : List ℕ → List M.Need → ℕ → Turn → Type 0
TurnIn s all k r = TurnOf s (λ j i. drop j all) k 0 r

-- ---- a whole expression ----

abbrev pub operand_needs : M.Operands → List M.Need
operand_needs o = step_needs (operand_steps o)

abbrev pub plain_of : ℕ → ℕ → M.Operands
plain_of a b = record { lhs = a; rhs = b; carry = none }

abbrev pub pair_needs : ℕ → ℕ → List M.Need
pair_needs a b = M.Whole a ∷ M.Whole b ∷ []

abbrev pub triple_needs : ℕ → ℕ → ℕ → List M.Need
triple_needs a b c = M.Whole a ∷ M.Whole b ∷ M.Whole c ∷ []

-- the parts of a Concat, the least significant first
abbrev pub low_first : List ℕ → ℕ → ℕ → List ℕ
low_first s start n = backwards (parts_of s start n) []

abbrev pub parts_needs : List ℕ → ℕ → ℕ → List M.Need
parts_needs s start n = step_needs (M.wholes (low_first s start n))

-- an expression of image s, width w
unfoldable pub kind_needs : List ℕ → ℕ → ExprKind → List M.Need
kind_needs s w k = step_needs (kind_steps (exprs_of s) w (kind_means s w k))

unfoldable pub whole_needs : List ℕ → ℕ → List M.Need
whole_needs s e = step_needs (whole_steps (exprs_of s) e)

-- what is asked of a kind: numbers are small, operands are there
abbrev pub Asked : List ℕ → ℕ → ExprKind → Type 0
Asked s w (K.Signal p lsb) = BitsThere s p lsb w
Asked s w (K.Constant start) = Unit {0}
Asked s w (K.Unary op a) = Unit {0}
Asked s w (K.Binary op a b) = Inside s a b
Asked s w (K.Mux c t f) = Unit {0}
Asked s w (K.Concat start n) = start + n ≤ 8192
Asked s w (K.Slice a lsb) = Unit {0}

-- ---- a range of an expression: lsb, width w ----

unfoldable pub unary_needs : UnaryOp → ℕ → ℕ → ℕ → ℕ → List M.Need
unary_needs op e a lsb w = step_needs (cond (is_bit_not (unary_means op)) (Always (M.Range a lsb w) ∷ []) (M.wholes (e ∷ [])))

unfoldable pub binary_needs : BinaryOp → ℕ → ℕ → ℕ → ℕ → ℕ → List M.Need
binary_needs op e a b lsb w = step_needs (gate_steps (gate_of (class_of (binary_means op))) e a b lsb w)

abbrev pub mux_ranges : ℕ → ℕ → ℕ → ℕ → ℕ → List M.Need
mux_ranges c t f lsb w = M.Whole c ∷ M.Range t lsb w ∷ M.Range f lsb w ∷ []

abbrev pub piece_step : Piece → Step
piece_step p = Always (M.Range p.part p.lsb p.width)

-- what the range [lsb, end) takes of a part, v wide, that begins at bit at
unfoldable pub part_needs : ℕ → ℕ → ℕ → ℕ → ℕ → List M.Need
part_needs lsb end at p v = cond (ltb (max lsb at) (min end (at + v))) (M.Range p (max lsb at - at) (min end (at + v) - max lsb at) ∷ []) []

-- what is left of a Concat's parts before turn k, whose part begins at bit at
abbrev pub pieces_needs : List ℕ → ℕ → ℕ → ℕ → ℕ → ℕ → ℕ → List M.Need
pieces_needs s start n lsb w k at = step_needs (map piece_step (pieces (exprs_of s) lsb (lsb + w) at (drop k (low_first s start n))))

unfoldable pub kind_rest : List ℕ → ℕ → ℕ → ℕ → ExprKind → ℕ → ℕ → List M.Need
kind_rest s e lsb w (K.Signal p l) k at = drop k (bits_needs p (l + lsb) w)
kind_rest s e lsb w (K.Constant start) k at = []
kind_rest s e lsb w (K.Unary op a) k at = drop k (unary_needs op e a lsb w)
kind_rest s e lsb w (K.Binary op a b) k at = drop k (binary_needs op e a b lsb w)
kind_rest s e lsb w (K.Mux c t f) k at = drop k (mux_ranges c t f lsb w)
kind_rest s e lsb w (K.Concat start n) k at = pieces_needs s start n lsb w k at
kind_rest s e lsb w (K.Slice a l) k at = drop k (M.Range a (l + lsb) w ∷ [])

abbrev pub AskedParts : List ℕ → ℕ → ℕ → ℕ → ℕ → Type 0
AskedParts s start n lsb w =
    (start + n ≤ 8192) × (lsb + w ≤ 1024) × ((i : ℕ) → i < n → expr_width s (list_word s (start + i)) ≤ 1024)
    × ((i : ℕ) → i < n → width_at (exprs_of s) (list_word s (start + i)) ≡ expr_width s (list_word s (start + i)))

abbrev pub AskedRange : List ℕ → ℕ → ℕ → ExprKind → Type 0
AskedRange s lsb w (K.Signal p l) = BitsThere s p (l + lsb) w
AskedRange s lsb w (K.Constant start) = Unit {0}
AskedRange s lsb w (K.Unary op a) = Unit {0}
AskedRange s lsb w (K.Binary op a b) = Unit {0}
AskedRange s lsb w (K.Mux c t f) = Unit {0}
AskedRange s lsb w (K.Concat start n) = AskedParts s start n lsb w
AskedRange s lsb w (K.Slice a l) = l + lsb ≤ 1024

-- of expression e
abbrev pub range_rest : List ℕ → ℕ → ℕ → ℕ → ℕ → ℕ → List M.Need
range_rest s e lsb w k at = kind_rest s e lsb w (expression_of s e).kind k at
