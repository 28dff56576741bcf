-- The operators by what makes them, and how wide their results are. Assumes nothing.
use Rattle.std.specs.Prelude.{◌≡◌, refl, false, List, ℕ}
use Rattle.std.proofs.Math.Option.{none}
use Rattle.spec_model.specs.Words.{Netlist}
use Rattle.spec_model.specs.Builder.{Made, and_then, each, both, add_not}
use Rattle.spec_model.specs.Ranges.{OrGate}
use Rattle.spec_model.specs.Lowering.{add_gate, reduce_tree, equal_words, shift, lower_binary}
use Rattle.spec_model.specs.WordCells.{arithmetic, comparison}
use Rattle.image_records.specs.Expr.{binary_means}
use Rattle.image_records.specs.declared.UnaryOp.{UnaryOp}
use Rattle.image_records.specs.declared.UnaryOp.TheVariants as U
use Rattle.image_records.specs.declared.BinaryOp.{BinaryOp}
use Rattle.image_records.specs.declared.BinaryOp.TheVariants as B
use Rattle.net_fold.specs.Values.{op_of}
use Rattle.net_cells.specs.Cells.{compare_of}
use Rattle.op_bits.specs.Kinds.{gate_of}
use Rattle.op_shifts.specs.Kinds.{shift_of}
use Rattle.op_makers.specs.Class.{class_of}
use Rattle.op_makers.specs.declared.Class.{Class}
use Rattle.op_makers.specs.declared.Class.TheVariants.{Bitwise, Arithmetic, Equal, NotEqual, Compare, CompareBack, Shift}

-- how many nets the result has, of w in an operand
abbrev pub unary_width : UnaryOp → ℕ → ℕ
unary_width U.BitNot w = w
unary_width U.LogicNot w = 1
unary_width U.ReduceOr w = 1
unary_width U.ReduceAnd w = 1
unary_width U.ReduceXor w = 1

abbrev pub logic_not : List ℕ → Netlist → Made (List ℕ)
logic_not xs l = and_then (reduce_tree OrGate false xs l) (λ (r, l₁). each add_not r l₁)

abbrev pub not_equal : List ℕ → List ℕ → Netlist → Made (List ℕ)
not_equal xs ys l = and_then (equal_words xs ys l) (λ (r, l₁). each add_not r l₁)

abbrev pub class_width : Class → ℕ → ℕ
class_width (Bitwise g) w = w
class_width (Arithmetic op) w = w
class_width Equal w = 1
class_width NotEqual w = 1
class_width (Compare op) w = 1
class_width (CompareBack op) w = 1
class_width (Shift h) w = w

-- operands of w and v nets fit: equal widths, but for the amount of a shift
abbrev pub OperandsFit : Class → ℕ → ℕ → Type 0
OperandsFit (Bitwise g) w v = w ≡ v
OperandsFit (Arithmetic op) w v = w ≡ v
OperandsFit Equal w v = w ≡ v
OperandsFit NotEqual w v = w ≡ v
OperandsFit (Compare op) w v = w ≡ v
OperandsFit (CompareBack op) w v = w ≡ v
OperandsFit (Shift h) w v = Unit {0}

unfoldable pub lower_class : Class → List ℕ → List ℕ → Netlist → Made (List ℕ)
lower_class (Bitwise g) xs ys l = both (add_gate (gate_of g)) xs ys l
lower_class (Arithmetic op) xs ys l = arithmetic (op_of op) xs ys none l
lower_class Equal xs ys l = equal_words xs ys l
lower_class NotEqual xs ys l = not_equal xs ys l
lower_class (Compare op) xs ys l = comparison (compare_of op) xs ys l
lower_class (CompareBack op) xs ys l = comparison (compare_of op) ys xs l
lower_class (Shift h) xs ys l = shift (shift_of h) xs ys l

pub by_class : (op : BinaryOp) (xs ys : List ℕ) (l : Netlist) → lower_binary (binary_means op) xs ys l ≡ lower_class (class_of op) xs ys l
unfolding lower_binary binary_means lower_class class_of
by_class B.And xs ys l = refl
by_class B.Or xs ys l = refl
by_class B.Xor xs ys l = refl
by_class B.Add xs ys l = refl
by_class B.Sub xs ys l = refl
by_class B.Mul xs ys l = refl
by_class B.Equal xs ys l = refl
by_class B.NotEqual xs ys l = refl
by_class B.LessThanUnsigned xs ys l = refl
by_class B.LessThanSigned xs ys l = refl
by_class B.LessOrEqualUnsigned xs ys l = refl
by_class B.LessOrEqualSigned xs ys l = refl
by_class B.GreaterThanUnsigned xs ys l = refl
by_class B.GreaterThanSigned xs ys l = refl
by_class B.GreaterOrEqualUnsigned xs ys l = refl
by_class B.GreaterOrEqualSigned xs ys l = refl
by_class B.ShiftLeft xs ys l = refl
by_class B.ShiftRightLogical xs ys l = refl
by_class B.ShiftRightArithmetic xs ys l = refl
