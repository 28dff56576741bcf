-- What the ranges and the fusion ask of an operator, and that it agrees with the model's class; whether it works by bit. Assumes nothing.
use Rattle.std.specs.Prelude.{◌≡◌, refl, Bool, true, false, ℕ}
use Rattle.spec_tests.specs.Laws.{is_some}
use Rattle.spec_model.specs.Ranges as model
use Rattle.spec_model.specs.Lowering.{is_add, gate_of}
use Rattle.image_records.specs.Expr.{binary_means}
use Rattle.image_records.specs.declared.BinaryOp.{BinaryOp}
use Rattle.image_records.specs.declared.BinaryOp.TheVariants as B
use Rattle.image_records.specs.declared.OpClass.{OpClass}
use Rattle.image_records.specs.declared.OpClass.TheVariants.{Ands, Ors, Adds, Subtracts, Other}

unfoldable pub op_class_of : BinaryOp → OpClass
op_class_of B.And = Ands
op_class_of B.Or = Ors
op_class_of B.Xor = Ors
op_class_of B.Add = Adds
op_class_of B.Sub = Subtracts
op_class_of B.Mul = Other
op_class_of B.Equal = Other
op_class_of B.NotEqual = Other
op_class_of B.LessThanUnsigned = Other
op_class_of B.LessThanSigned = Other
op_class_of B.LessOrEqualUnsigned = Other
op_class_of B.LessOrEqualSigned = Other
op_class_of B.GreaterThanUnsigned = Other
op_class_of B.GreaterThanSigned = Other
op_class_of B.GreaterOrEqualUnsigned = Other
op_class_of B.GreaterOrEqualSigned = Other
op_class_of B.ShiftLeft = Other
op_class_of B.ShiftRightLogical = Other
op_class_of B.ShiftRightArithmetic = Other

-- the row of `binary_range` for a class
abbrev pub class_range : OpClass → ℕ → model.Range → model.Range → model.Range
class_range Ands w l r = model.binary_range (model.Bitwise model.AndGate) w l r
class_range Ors w l r = model.or_range l r
class_range Adds w l r = model.add_range w l r
class_range Subtracts w l r = model.sub_range w l r
class_range Other w l r = model.full w

pub range_class : (op : BinaryOp) (w : ℕ) (l r : model.Range) → model.binary_range (model.class_of (binary_means op)) w l r ≡ class_range (op_class_of op) w l r
unfolding op_class_of binary_means model.binary_range
range_class B.And w l r = refl
range_class B.Or w l r = refl
range_class B.Xor w l r = refl
range_class B.Add w l r = refl
range_class B.Sub w l r = refl
range_class B.Mul w l r = refl
range_class B.Equal w l r = refl
range_class B.NotEqual w l r = refl
range_class B.LessThanUnsigned w l r = refl
range_class B.LessThanSigned w l r = refl
range_class B.LessOrEqualUnsigned w l r = refl
range_class B.LessOrEqualSigned w l r = refl
range_class B.GreaterThanUnsigned w l r = refl
range_class B.GreaterThanSigned w l r = refl
range_class B.GreaterOrEqualUnsigned w l r = refl
range_class B.GreaterOrEqualSigned w l r = refl
range_class B.ShiftLeft w l r = refl
range_class B.ShiftRightLogical w l r = refl
range_class B.ShiftRightArithmetic w l r = refl

abbrev pub adds_of : OpClass → Bool
adds_of Ands = false
adds_of Ors = false
adds_of Adds = true
adds_of Subtracts = false
adds_of Other = false

pub add_class : (op : BinaryOp) → is_add (model.class_of (binary_means op)) ≡ adds_of (op_class_of op)
unfolding op_class_of binary_means
add_class B.And = refl
add_class B.Or = refl
add_class B.Xor = refl
add_class B.Add = refl
add_class B.Sub = refl
add_class B.Mul = refl
add_class B.Equal = refl
add_class B.NotEqual = refl
add_class B.LessThanUnsigned = refl
add_class B.LessThanSigned = refl
add_class B.LessOrEqualUnsigned = refl
add_class B.LessOrEqualSigned = refl
add_class B.GreaterThanUnsigned = refl
add_class B.GreaterThanSigned = refl
add_class B.GreaterOrEqualUnsigned = refl
add_class B.GreaterOrEqualSigned = refl
add_class B.ShiftLeft = refl
add_class B.ShiftRightLogical = refl
add_class B.ShiftRightArithmetic = refl

-- And, Or and Xor: the model has a gate for each bit
unfoldable pub bitwise : BinaryOp → Bool
bitwise op = is_some (gate_of (model.class_of (binary_means op)))
