-- What reading the nets of operands gives, and what must be lowered for it. Assumes nothing.
use Rattle.std.specs.Prelude.{◌≡◌, true, List, ◌++◌, ℕ, ◌+◌, ◌≤◌, ◌<◌, get_or, take}
use Rattle.std.proofs.Math.Option.{Option, none, some}
use Rattle.spec_tests.specs.Rules.{sum_to}
use Rattle.spec_rtl.specs.Rtl as R
use Rattle.spec_rules.specs.Image.{count_at_of, expr_width, list_word}
use Rattle.spec_model.specs.Words.{Netlist}
use Rattle.spec_model.specs.Builder.{Made}
use Rattle.spec_model.specs.Ranges.{adder_width}
use Rattle.spec_model.specs.Ranges as ranges
use Rattle.spec_model.specs.Lowering.{Operands, operands_of, whole_nets, build_binary}
use Rattle.expr_range_rows.specs.Rows.{narrow_word}
use Rattle.expr_laws.specs.Exprs.{exprs_of, Readable}
use Rattle.scratch_view.specs.View.{limit_of, expr_at, is_whole, state_of, Laid}

-- expression e is lowered whole
abbrev pub IsWhole : List ℕ → List ℕ → ℕ → Type 0
IsWhole s w e = is_whole s (limit_of w) w e ≡ true

pub record WholeIn (s w : List ℕ) (a : ℕ) : Type 0 where
  pub there : a < count_at_of s 1
  pub whole : IsWhole s w a

-- the nets of the whole of expression a stand behind the first to of the list; r of them
pub record CopiedWhole (s w : List ℕ) (a : ℕ) (xs : List ℕ) (to r : ℕ) (xs' : List ℕ) : Type 0 where
  pub width : r ≡ expr_width s a
  pub nets : (l : Netlist) → take (to + r) xs' ≡ take to xs ++ whole_nets (state_of s l w) a

-- the parts of a Concat are there, and lowered whole
pub record Parts (s w : List ℕ) (start n : ℕ) : Type 0 where
  pub room : start + n ≤ 8192
  pub whole : (i : ℕ) → i < n → WholeIn s w (list_word s (start + i))

abbrev pub parts_width : List ℕ → ℕ → ℕ → ℕ
parts_width s start n = sum_to (λ i. expr_width s (list_word s (start + i))) n

-- condition and sides of a Mux of width v
pub record MuxIn (s w : List ℕ) (v c t e : ℕ) : Type 0 where
  pub condition : WholeIn s w c
  pub left : WholeIn s w t
  pub right : WholeIn s w e
  pub left_wide : expr_width s t ≡ v
  pub right_wide : expr_width s e ≡ v

-- ---- additions ----

abbrev pub CarryIn : List ℕ → List ℕ → Option ℕ → Type 0
CarryIn s w none = Unit {0}
CarryIn s w (some c) = WholeIn s w c

pub record OperandsIn (s w : List ℕ) (o : Operands) : Type 0 where
  pub lhs : WholeIn s w o.lhs
  pub rhs : WholeIn s w o.rhs
  pub carry : CarryIn s w o.carry

-- expression e is an Add of a and b
pub record AddIn (s w : List ℕ) (e a b : ℕ) : Type 0 where
  pub laid : Laid s w
  pub readable : Readable s
  pub inside : e < count_at_of s 1
  pub is : (ranges.expr_at (exprs_of s) e).kind ≡ R.Bin R.Add a b
  pub narrowed : get_or w (expr_at s (limit_of w) e 6) 0 ≡ narrow_word (adder_width (exprs_of s) e)
  pub operands : OperandsIn s w (operands_of (exprs_of s) R.Add a b)

abbrev pub add_made : List ℕ → Netlist → List ℕ → ℕ → ℕ → ℕ → Made (List ℕ)
add_made s l w e a b = build_binary (exprs_of s) (state_of s l w) e (expr_width s e) R.Add a b
