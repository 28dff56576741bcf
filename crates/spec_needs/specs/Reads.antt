-- Which signal bits a bit of an expression reads (docs/RULES.md, needed bits). "What a Slice takes is read by bit: through Signal,
-- Constant, BitNot, And, Or, Xor, Mux (its condition whole), Slice and Concat only the bits taken, through any other kind the whole
-- operands." An expression that is read whole is read in each of its bits: of the kinds named the bits together take what the whole
-- takes. Assumes nothing.
use Rattle.std.specs.Prelude.{ℕ, zero, suc, ◌+◌, ◌-◌, Bool, true, false, cond, List, [], ◌∷◌, ◌++◌, ltb, get_or}
use Rattle.spec_rtl.specs.Table.{entry}
use Rattle.spec_rtl.specs.Rtl as R
use Rattle.spec_rtl.specs.Rtl.{Expr, Kind, Unary, Binary}

-- a bit of a signal
abbrev pub Place : Type 0
Place = ℕ × ℕ

abbrev pub by_bit₁ : Unary → Bool
by_bit₁ R.BitNot = true
by_bit₁ R.LogicNot = false
by_bit₁ R.ReduceOr = false
by_bit₁ R.ReduceAnd = false
by_bit₁ R.ReduceXor = false

abbrev pub by_bit₂ : Binary → Bool
by_bit₂ R.And = true
by_bit₂ R.Or = true
by_bit₂ R.Xor = true
by_bit₂ R.Add = false
by_bit₂ R.Sub = false
by_bit₂ R.Mul = false
by_bit₂ R.Equal = false
by_bit₂ R.NotEqual = false
by_bit₂ R.LessU = false
by_bit₂ R.LessS = false
by_bit₂ R.LessEqU = false
by_bit₂ R.LessEqS = false
by_bit₂ R.GreaterU = false
by_bit₂ R.GreaterS = false
by_bit₂ R.GreaterEqU = false
by_bit₂ R.GreaterEqS = false
by_bit₂ R.ShiftL = false
by_bit₂ R.ShiftR = false
by_bit₂ R.ShiftA = false

abbrev pub width_of : List Expr → ℕ → ℕ
width_of xs e = (get_or xs e (record { width = 0; kind = R.Constant 0 })).width

-- bits 0 to w - 1
abbrev pub whole : ℕ → (ℕ → List Place) → List Place
whole zero g = []
whole (suc w) g = whole w g ++ g w

abbrev pub sum_of : (ℕ → ℕ) → List ℕ → ℕ
sum_of f [] = 0
sum_of f (p ∷ ps) = f p + sum_of f ps

-- bit i of a Concat, whose first part is the most significant
abbrev pub of_parts_of : (ℕ → ℕ → List Place) → (ℕ → ℕ) → List ℕ → ℕ → List Place
of_parts_of g f [] i = []
of_parts_of g f (p ∷ ps) i = cond (ltb i (sum_of f ps)) (of_parts_of g f ps i) (g p (i - sum_of f ps))

-- bit i of an expression: g has the bits of the expressions before, f their widths
abbrev pub of_kind : (ℕ → ℕ) → (ℕ → ℕ → List Place) → Kind → ℕ → List Place
of_kind f g (R.Signal s lsb) i = (s, lsb + i) ∷ []
of_kind f g (R.Constant n) i = []
of_kind f g (R.Un op a) i = cond (by_bit₁ op) (g a i) (whole (f a) (g a))
of_kind f g (R.Bin op a b) i = cond (by_bit₂ op) (g a i ++ g b i) (whole (f a) (g a) ++ whole (f b) (g b))
of_kind f g (R.Mux c t e) i = whole (f c) (g c) ++ (g t i ++ g e i)
of_kind f g (R.Concat ps) i = of_parts_of g f ps i
of_kind f g (R.Slice a lsb) i = g a (lsb + i)

abbrev pub read_rule : (ℕ → ℕ) → (ℕ → ℕ → List Place) → Expr → ℕ → List Place
read_rule f g x = of_kind f g x.kind

-- the signal bits that bit i of expression e reads, and those that all of e reads
unfoldable pub bit_reads : List Expr → ℕ → ℕ → List Place
bit_reads xs e = entry (λ (i : ℕ). []) (read_rule (width_of xs)) xs e

unfoldable pub whole_reads : List Expr → ℕ → List Place
whole_reads xs e = whole (width_of xs e) (bit_reads xs e)
