-- The class of each binary operator: what makes it. Assumes nothing.
use Rattle.image_records.specs.declared.BinaryOp.{BinaryOp}
use Rattle.image_records.specs.declared.BinaryOp.TheVariants as B
use Rattle.net_fold.specs.declared.ArithmeticOp.TheVariants as A
use Rattle.net_cells.specs.declared.ComparisonOp.TheVariants.{LessThanUnsigned, LessOrEqualUnsigned, LessThanSigned, LessOrEqualSigned}
use Rattle.op_bits.specs.declared.Gate.TheVariants as G
use Rattle.op_shifts.specs.declared.ShiftKind.TheVariants as S
use Rattle.op_makers.specs.declared.Class.{Class}
use Rattle.op_makers.specs.declared.Class.TheVariants.{Bitwise, Arithmetic, Equal, NotEqual, Compare, CompareBack, Shift}

unfoldable pub class_of : BinaryOp → Class
class_of B.And = Bitwise G.And
class_of B.Or = Bitwise G.Or
class_of B.Xor = Bitwise G.Xor
class_of B.Add = Arithmetic A.Add
class_of B.Sub = Arithmetic A.Subtract
class_of B.Mul = Arithmetic A.Multiply
class_of B.Equal = Equal
class_of B.NotEqual = NotEqual
class_of B.LessThanUnsigned = Compare LessThanUnsigned
class_of B.LessThanSigned = Compare LessThanSigned
class_of B.LessOrEqualUnsigned = Compare LessOrEqualUnsigned
class_of B.LessOrEqualSigned = Compare LessOrEqualSigned
class_of B.GreaterThanUnsigned = CompareBack LessThanUnsigned
class_of B.GreaterThanSigned = CompareBack LessThanSigned
class_of B.GreaterOrEqualUnsigned = CompareBack LessOrEqualUnsigned
class_of B.GreaterOrEqualSigned = CompareBack LessOrEqualSigned
class_of B.ShiftLeft = Shift S.Left
class_of B.ShiftRightLogical = Shift S.Right
class_of B.ShiftRightArithmetic = Shift S.Arithmetic
