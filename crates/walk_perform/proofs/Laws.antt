-- Parts of a list put back; widths of results. Assumes nothing.
use mathlib.Core.Path.{◌≡◌, sym, ◌∙◌}
use mathlib.Core.List.{List, ◌++◌}
use Prim.Native.Nat.{ℕ, ◌≤◌, ◌<◌}
use native.Mathlib.Omega.{arith}
use lib.ListN.{length, take}
use lib.Seq.{length-take-le}
use Rattle.spec_model.specs.Builder.{Made}
use Rattle.word_laws.specs.Widths.{UnWidth, BinWidth}
use Rattle.net_fold.specs.Values.{Fills}
use Rattle.std.specs.Prelude.{Result}
use Rattle.net_nodes.specs.declared.Full.{Full}
use Rattle.image_records.specs.Expr.{unary_means, binary_means}
use Rattle.image_records.specs.declared.UnaryOp.{UnaryOp}
use Rattle.image_records.specs.declared.UnaryOp.TheVariants as U
use Rattle.image_records.specs.declared.BinaryOp.{BinaryOp}
use Rattle.image_records.specs.declared.BinaryOp.TheVariants as B
use Rattle.walk_job_parts.proofs.Lent.{back_front}
use Rattle.op_makers.specs.Class.{class_of}
use Rattle.op_lower.specs.Operators.{unary_width, class_width, OperandsFit}
use Rattle.op_makers.specs.declared.Class.{Class}
use Rattle.op_makers.specs.declared.Class.TheVariants.{Bitwise, Arithmetic, Equal, NotEqual, Compare, CompareBack, Shift}

-- the same width
pub width_by : (m : Made (List ℕ)) (n : ℕ) (r : Result (Unit {0}) Full) (k v : ℕ) (ns w idx : List ℕ) → k ≡ v → Fills m n r (take k ns) w idx → Fills m n r (take v ns) w idx
width_by m n r k v ns w idx e g = rw e at g

-- ---- widths of results ----

unary_le : (op : UnaryOp) (k : ℕ) → 0 < k → unary_width op k ≤ k
unary_le U.BitNot k h = omega arith
unary_le U.LogicNot k h = h
unary_le U.ReduceOr k h = h
unary_le U.ReduceAnd k h = h
unary_le U.ReduceXor k h = h

class_le : (c : Class) (k : ℕ) → 0 < k → class_width c k ≤ k
class_le (Bitwise g) k h = omega arith
class_le (Arithmetic op) k h = omega arith
class_le Equal k h = h
class_le NotEqual k h = h
class_le (Compare op) k h = h
class_le (CompareBack op) k h = h
class_le (Shift s) k h = omega arith

module _ (m : Made (List ℕ)) (n : ℕ) (r : Result (Unit {0}) Full) (xs ns rest w idx : List ℕ) (k : ℕ) (some : 0 < k) (within : k ≤ length xs) (kept : length ns ≡ length (take k xs)) where
  long : length ns ≡ k
  long = kept ∙ length-take-le k xs within

  pub back_unary : (op : UnaryOp) → Fills m n r (take (unary_width op (length (take k xs))) ns) w idx → Fills m n r (take (unary_width op k) (ns ++ rest)) w idx
  back_unary op g = back_front m n r ns rest w idx (unary_width op k) (omega (arith, unary_le op k some, long)) (rw (length-take-le k xs within) at g)

  pub back_class : (c : Class) → Fills m n r (take (class_width c (length (take k xs))) ns) w idx → Fills m n r (take (class_width c k) (ns ++ rest)) w idx
  back_class c g = back_front m n r ns rest w idx (class_width c k) (omega (arith, class_le c k some, long)) (rw (length-take-le k xs within) at g)

pub unary_wide : (op : UnaryOp) (v k : ℕ) → UnWidth (unary_means op) v k → unary_width op k ≡ v
unfolding unary_means
unary_wide U.BitNot v k h = h
unary_wide U.LogicNot v k h = h
unary_wide U.ReduceOr v k h = h
unary_wide U.ReduceAnd v k h = h
unary_wide U.ReduceXor v k h = h

pub binary_wide : (op : BinaryOp) (v j k : ℕ) → BinWidth (binary_means op) v j k → class_width (class_of op) j ≡ v
unfolding binary_means class_of
binary_wide B.And v j k h = h.0
binary_wide B.Or v j k h = h.0
binary_wide B.Xor v j k h = h.0
binary_wide B.Add v j k h = h.0
binary_wide B.Sub v j k h = h.0
binary_wide B.Mul v j k h = h.0
binary_wide B.Equal v j k h = h.0
binary_wide B.NotEqual v j k h = h.0
binary_wide B.LessThanUnsigned v j k h = h.0
binary_wide B.LessThanSigned v j k h = h.0
binary_wide B.LessOrEqualUnsigned v j k h = h.0
binary_wide B.LessOrEqualSigned v j k h = h.0
binary_wide B.GreaterThanUnsigned v j k h = h.0
binary_wide B.GreaterThanSigned v j k h = h.0
binary_wide B.GreaterOrEqualUnsigned v j k h = h.0
binary_wide B.GreaterOrEqualSigned v j k h = h.0
binary_wide B.ShiftLeft v j k h = h
binary_wide B.ShiftRightLogical v j k h = h
binary_wide B.ShiftRightArithmetic v j k h = h

pub binary_fit : (op : BinaryOp) (v j k : ℕ) → BinWidth (binary_means op) v j k → OperandsFit (class_of op) j k
unfolding binary_means class_of
binary_fit B.And v j k h = h.0 ∙ sym h.1
binary_fit B.Or v j k h = h.0 ∙ sym h.1
binary_fit B.Xor v j k h = h.0 ∙ sym h.1
binary_fit B.Add v j k h = h.0 ∙ sym h.1
binary_fit B.Sub v j k h = h.0 ∙ sym h.1
binary_fit B.Mul v j k h = h.0 ∙ sym h.1
binary_fit B.Equal v j k h = h.1
binary_fit B.NotEqual v j k h = h.1
binary_fit B.LessThanUnsigned v j k h = h.1
binary_fit B.LessThanSigned v j k h = h.1
binary_fit B.LessOrEqualUnsigned v j k h = h.1
binary_fit B.LessOrEqualSigned v j k h = h.1
binary_fit B.GreaterThanUnsigned v j k h = h.1
binary_fit B.GreaterThanSigned v j k h = h.1
binary_fit B.GreaterOrEqualUnsigned v j k h = h.1
binary_fit B.GreaterOrEqualSigned v j k h = h.1
binary_fit B.ShiftLeft v j k h = tt
binary_fit B.ShiftRightLogical v j k h = tt
binary_fit B.ShiftRightArithmetic v j k h = tt
