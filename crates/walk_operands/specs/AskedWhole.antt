-- What must stand in the tables before an expression is made: what its steps lower. Assumes nothing.
use Rattle.std.specs.Prelude.{◌≡◌, List, [], ◌∷◌, ℕ, ◌+◌, ◌≤◌, ◌<◌, get_or}
use Rattle.spec_rtl.specs.Rtl as R
use Rattle.spec_rules.specs.Image.{count_at_of, expr_width, signal_width}
use Rattle.spec_model.specs.Ranges.{adder_width}
use Rattle.spec_model.specs.Ranges as ranges
use Rattle.spec_model.specs.Lowering.{Need, Bit, Whole, Range, Step, Always, Unless, whole_steps, operand_steps, operands_of}
use Rattle.expr_range_rows.specs.Rows.{narrow_word}
use Rattle.image_records.specs.Expr.{binary_means}
use Rattle.image_records.specs.declared.BinaryOp.{BinaryOp}
use Rattle.expr_laws.specs.Exprs.{exprs_of, Readable}
use Rattle.scratch_view.specs.View.{limit_of, expr_at, Laid}
use Rattle.walk_operands.specs.Reads.{IsWhole}

abbrev pub NeedWhole : List ℕ → List ℕ → Need → Type 0
NeedWhole s w (Bit p b) = Unit {0}
NeedWhole s w (Whole e) = IsWhole s w e
NeedWhole s w (Range e lsb k) = Unit {0}

abbrev pub need_of : Step → Need
need_of (Always n) = n
need_of (Unless c v n) = n

-- the expressions that the steps lower whole are lowered whole
abbrev pub AllWhole : List ℕ → List ℕ → List Step → Type 0
AllWhole s w [] = Unit {0}
AllWhole s w (x ∷ xs) = NeedWhole s w (need_of x) × AllWhole s w xs

-- a Signal expression stays inside its signal
abbrev pub SignalIn : List ℕ → ℕ → R.Kind → Type 0
SignalIn s v (R.Signal p lsb) = (p < count_at_of s 0) × (lsb + v ≤ signal_width s p)
SignalIn s v (R.Constant n) = Unit {0}
SignalIn s v (R.Un op a) = Unit {0}
SignalIn s v (R.Bin op a b) = Unit {0}
SignalIn s v (R.Mux c t f) = Unit {0}
SignalIn s v (R.Concat ps) = Unit {0}
SignalIn s v (R.Slice a lsb) = Unit {0}

pub record Tabled (s w : List ℕ) (e : ℕ) : Type 0 where
  pub laid : Laid s w
  pub readable : Readable s
  pub inside : e < count_at_of s 1
  pub signals : SignalIn s (expr_width s e) (ranges.expr_at (exprs_of s) e).kind
  pub narrowed : get_or w (expr_at s (limit_of w) e 6) 0 ≡ narrow_word (adder_width (exprs_of s) e)

pub record Asked (s w : List ℕ) (e : ℕ) : Type 0 where
  pub tabled : Tabled s w e
  pub whole : AllWhole s w (whole_steps (exprs_of s) e)

-- the operands of an operator are at most m wide
abbrev pub SidesFit : List ℕ → ℕ → R.Kind → Type 0
SidesFit s m (R.Signal p lsb) = Unit {0}
SidesFit s m (R.Constant n) = Unit {0}
SidesFit s m (R.Un op a) = expr_width s a ≤ m
SidesFit s m (R.Bin op a b) = (expr_width s a ≤ m) × (expr_width s b ≤ m)
SidesFit s m (R.Mux c t f) = Unit {0}
SidesFit s m (R.Concat ps) = Unit {0}
SidesFit s m (R.Slice a lsb) = Unit {0}

-- lists of m nets have room for expression e, and for the operands of its operator
pub record Room (s : List ℕ) (m e : ℕ) : Type 0 where
  pub most : expr_width s e ≤ m
  pub sides : SidesFit s m (ranges.expr_at (exprs_of s) e).kind

pub record BinaryIn (s w : List ℕ) (e : ℕ) (op : BinaryOp) (a b : ℕ) : Type 0 where
  pub tabled : Tabled s w e
  pub is : (ranges.expr_at (exprs_of s) e).kind ≡ R.Bin (binary_means op) a b
  pub whole : AllWhole s w (operand_steps (operands_of (exprs_of s) (binary_means op) a b))
