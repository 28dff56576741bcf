-- The code's expression record: from the fields of the image, and the expression that it stands for.
use Rattle.std.specs.Prelude.{ℕ, ◌+◌, ◌*◌, ◌<◌, List, [], ◌∷◌, ◌≡◌, refl, Bool, true, false, take, drop, get_or}
use Rattle.std.proofs.Common.{sym, ap, ◌∙◌, lit≤, arith}
use Rattle.std.proofs.Math.ListN.{get_or-map}
use Rattle.spec_tests.specs.Rules.{◌≡?◌, pick, list_of}
use Rattle.spec_rtl.specs.Rtl as R
use Rattle.spec_rules.specs.Image as image
use Rattle.image_fields.specs.Fields.{field_in, word_in}
use Rattle.image_records.specs.declared.UnaryOp.{UnaryOp}
use Rattle.image_records.specs.declared.UnaryOp.TheVariants as U
use Rattle.image_records.specs.declared.BinaryOp.{BinaryOp}
use Rattle.image_records.specs.declared.BinaryOp.TheVariants as B
use Rattle.image_records.specs.declared.ExprKind.{ExprKind}
use Rattle.image_records.specs.declared.ExprKind.TheVariants.{Signal, Constant, Unary, Binary, Mux, Concat, Slice}
use Rattle.image_records.specs.declared.Expression.{Expression}

-- ---- by number ----

abbrev pub unaries : List UnaryOp
unaries = U.BitNot ∷ U.LogicNot ∷ U.ReduceOr ∷ U.ReduceAnd ∷ U.ReduceXor ∷ []

unfoldable pub unary_of : ℕ → UnaryOp
unary_of n = get_or unaries n U.BitNot

abbrev pub binaries : List BinaryOp
binaries =
    B.And ∷ B.Or ∷ B.Xor ∷ B.Add ∷ B.Sub ∷ B.Mul ∷ B.Equal ∷ B.NotEqual ∷ B.LessThanUnsigned ∷ B.LessThanSigned
    ∷ B.LessOrEqualUnsigned ∷ B.LessOrEqualSigned ∷ B.GreaterThanUnsigned ∷ B.GreaterThanSigned ∷ B.GreaterOrEqualUnsigned
    ∷ B.GreaterOrEqualSigned ∷ B.ShiftLeft ∷ B.ShiftRightLogical ∷ B.ShiftRightArithmetic ∷ []

unfoldable pub binary_of : ℕ → BinaryOp
binary_of n = get_or binaries n B.And

-- kind, operands a, b, c
unfoldable pub kind_of : ℕ → ℕ → ℕ → ℕ → ExprKind
kind_of k a b c =
    pick (k ≡? 0) (Signal a b)
    (pick (k ≡? 1) (Constant a)
    (pick (k ≡? 2) (Unary (unary_of a) b)
    (pick (k ≡? 3) (Binary (binary_of a) b c)
    (pick (k ≡? 4) (Mux a b c)
    (pick (k ≡? 5) (Concat a b)
    (Slice a b))))))

-- record r of the expressions' part of the image, and of the image
unfoldable pub expression_in : List ℕ → ℕ → Expression
expression_in p r = record { width = field_in p 1 r 1; kind = kind_of (field_in p 1 r 0) (field_in p 1 r 2) (field_in p 1 r 3) (field_in p 1 r 4) }

-- a record's own bytes are enough
field_own : (p : List ℕ) (at r f : ℕ) → at ≡ 20 * r → f < 5 → field_in (take 20 (drop at p)) 1 0 f ≡ field_in p 1 r f
unfolding field_in image.size_of
field_own p at r f e h = word_in p at 20 (0 * 20 + f * 4) (omega arith) ∙ ap (λ (k : ℕ). image.word_at p k) (omega arith)

pub expression_own : (p : List ℕ) (at r : ℕ) → at ≡ 20 * r → expression_in (take 20 (drop at p)) 0 ≡ expression_in p r
unfolding expression_in
expression_own p at r e =
    rw (field_own p at r 0 e (lit≤ tt), field_own p at r 1 e (lit≤ tt), field_own p at r 2 e (lit≤ tt), field_own p at r 3 e (lit≤ tt), field_own p at r 4 e (lit≤ tt))

unfoldable pub expression_of : List ℕ → ℕ → Expression
expression_of s r = expression_in (image.part s 1) r

-- ---- what it stands for ----

unfoldable pub unary_means : UnaryOp → R.Unary
unary_means U.BitNot = R.BitNot
unary_means U.LogicNot = R.LogicNot
unary_means U.ReduceOr = R.ReduceOr
unary_means U.ReduceAnd = R.ReduceAnd
unary_means U.ReduceXor = R.ReduceXor

unfoldable pub binary_means : BinaryOp → R.Binary
binary_means B.And = R.And
binary_means B.Or = R.Or
binary_means B.Xor = R.Xor
binary_means B.Add = R.Add
binary_means B.Sub = R.Sub
binary_means B.Mul = R.Mul
binary_means B.Equal = R.Equal
binary_means B.NotEqual = R.NotEqual
binary_means B.LessThanUnsigned = R.LessU
binary_means B.LessThanSigned = R.LessS
binary_means B.LessOrEqualUnsigned = R.LessEqU
binary_means B.LessOrEqualSigned = R.LessEqS
binary_means B.GreaterThanUnsigned = R.GreaterU
binary_means B.GreaterThanSigned = R.GreaterS
binary_means B.GreaterOrEqualUnsigned = R.GreaterEqU
binary_means B.GreaterOrEqualSigned = R.GreaterEqS
binary_means B.ShiftLeft = R.ShiftL
binary_means B.ShiftRightLogical = R.ShiftR
binary_means B.ShiftRightArithmetic = R.ShiftA

-- a constant's and a Concat's list words stand in image s; w is the width
unfoldable pub kind_means : List ℕ → ℕ → ExprKind → R.Kind
kind_means s w (Signal p lsb) = R.Signal p lsb
kind_means s w (Constant start) = R.Constant (image.constant_of s w start)
kind_means s w (Unary op a) = R.Un (unary_means op) a
kind_means s w (Binary op a b) = R.Bin (binary_means op) a b
kind_means s w (Mux c t e) = R.Mux c t e
kind_means s w (Concat start n) = R.Concat (list_of n (λ i. image.list_word s (start + i)))
kind_means s w (Slice a lsb) = R.Slice a lsb

unfoldable pub expr_means : List ℕ → Expression → R.Expr
expr_means s x = record { width = x.width; kind = kind_means s x.width x.kind }

-- ---- record r of the image, read ----

pub record Decoded (s : List ℕ) (r : ℕ) (x : Expression) : Type 0 where
  pub fields : x ≡ expression_of s r
  pub means : expr_means s x ≡ image.expr_at s r

-- ---- the fields stand for what the image says ----

pub unary_means_law : (n : ℕ) → unary_means (unary_of n) ≡ image.unary_of n
unfolding unary_of image.unary_of unary_means
unary_means_law n = sym (get_or-map unary_means unaries n U.BitNot)

pub binary_means_law : (n : ℕ) → binary_means (binary_of n) ≡ image.binary_of n
unfolding binary_of image.binary_of binary_means
binary_means_law n = sym (get_or-map binary_means binaries n B.And)

-- a function goes into both sides of a choice
pub pick_both : {A B : Type 0} (f : A → B) (t : Bool) {a b : A} {x y : B} → f a ≡ x → f b ≡ y → f (pick t a b) ≡ pick t x y
unfolding pick
pick_both f true p q = p
pick_both f false p q = q

pub kind_means_law : (s : List ℕ) (w k a b c : ℕ) → kind_means s w (kind_of k a b c) ≡ image.kind_of s k w a b c
unfolding kind_means kind_of image.kind_of
kind_means_law s w k a b c =
    pick_both (kind_means s w) (k ≡? 0) refl
    (pick_both (kind_means s w) (k ≡? 1) refl
    (pick_both (kind_means s w) (k ≡? 2) (ap (λ (o : R.Unary). R.Un o b) (unary_means_law a))
    (pick_both (kind_means s w) (k ≡? 3) (ap (λ (o : R.Binary). R.Bin o b c) (binary_means_law a))
    (pick_both (kind_means s w) (k ≡? 4) refl
    (pick_both (kind_means s w) (k ≡? 5) refl
    refl)))))

pub expr_means_law : (s : List ℕ) (r : ℕ) → expr_means s (expression_of s r) ≡ image.expr_at s r
unfolding expr_means expression_of expression_in field_in image.expr_at image.expr_width image.field
expr_means_law s r = rw kind_means_law

pub decoded : (s : List ℕ) (r : ℕ) (x : Expression) → x ≡ expression_of s r → Decoded s r x
decoded s r x e = record { fields = e; means = ap (expr_means s) e ∙ expr_means_law s r }
