-- ranges.rs, with rows of Or and Xor (request Q-5): to what width an Add is narrowed. Assumes nothing.
use Rattle.std.specs.Prelude.{Bool, cond, ◌&&◌, List, [], ◌∷◌, ℕ, zero, suc, ◌+◌, ◌*◌, ◌-◌, ◌^◌, ◌/◌, ◌%◌, min, max, eqb, leb, ltb, get_or}
use Rattle.std.proofs.Math.Option.{Option, none, some}
use Rattle.spec_rtl.specs.Table.{entry}
use Rattle.spec_rtl.specs.Rtl as R
use Rattle.spec_rtl.specs.Rtl.{Expr, Kind, Binary}

abbrev pub expr_at : List Expr → ℕ → Expr
expr_at xs e = get_or xs e (record { width = 0; kind = R.Constant 0 })

abbrev pub width_at : List Expr → ℕ → ℕ
width_at xs e = (expr_at xs e).width

-- a gate of two inputs
pub data Gate : Type 0 where
  AndGate OrGate XorGate : Gate

-- what the lowering asks of an operator
pub data Class : Type 0 where
  Bitwise : Gate → Class
  Adds Subtracts Other : Class

abbrev pub class_of : Binary → Class
class_of R.And = Bitwise AndGate
class_of R.Or = Bitwise OrGate
class_of R.Xor = Bitwise XorGate
class_of R.Add = Adds
class_of R.Sub = Subtracts
class_of R.Mul = Other
class_of R.Equal = Other
class_of R.NotEqual = Other
class_of R.LessU = Other
class_of R.LessS = Other
class_of R.LessEqU = Other
class_of R.LessEqS = Other
class_of R.GreaterU = Other
class_of R.GreaterS = Other
class_of R.GreaterEqU = Other
class_of R.GreaterEqS = Other
class_of R.ShiftL = Other
class_of R.ShiftR = Other
class_of R.ShiftA = Other

pub record Range : Type 0 where
  pub lo : ℕ
  pub hi : ℕ

abbrev pub point : ℕ → Range
point n = record { lo = n; hi = n }

abbrev pub full : ℕ → Range
full w = record { lo = 0; hi = 2 ^ w - 1 }

abbrev pub single : Range → Bool
single r = eqb r.lo r.hi

-- `binary_range`, row by row, at result width w; two constants are added or subtracted modulo 2 ^ 64 before the mask
abbrev pub add_range : ℕ → Range → Range → Range
add_range w l r =
    cond (single l && single r) (point ((l.lo + r.lo) % 2 ^ 64 % 2 ^ w))
    (cond (leb (l.hi + r.hi) (2 ^ w - 1)) (record { lo = l.lo + r.lo; hi = l.hi + r.hi }) (full w))

abbrev pub sub_range : ℕ → Range → Range → Range
sub_range w l r =
    cond (single l && single r) (point ((l.lo + (2 ^ 64 - r.lo)) % 2 ^ 64 % 2 ^ w))
    (cond (leb r.hi l.lo) (record { lo = l.lo - r.hi; hi = l.hi - r.lo }) (full w))

-- the bit length of a number below 2 ^ fuel
abbrev pub bit_len : ℕ → ℕ → ℕ
bit_len zero n = 0
bit_len (suc f) zero = 0
bit_len (suc f) (suc n) = suc (bit_len f (suc n / 2))

-- Or, Xor: all ones up to the bit length of the larger maximum
abbrev pub or_range : Range → Range → Range
or_range l r = record { lo = 0; hi = 2 ^ bit_len 64 (max l.hi r.hi) - 1 }

unfoldable pub binary_range : Class → ℕ → Range → Range → Range
binary_range (Bitwise AndGate) w l r = record { lo = 0; hi = min l.hi r.hi }
binary_range (Bitwise OrGate) w l r = or_range l r
binary_range (Bitwise XorGate) w l r = or_range l r
binary_range Adds w l r = add_range w l r
binary_range Subtracts w l r = sub_range w l r
binary_range Other w l r = full w

abbrev pub hull : Range → Range → Range
hull y n = record { lo = min y.lo n.lo; hi = max y.hi n.hi }

abbrev pub is_point : ℕ → Range → Bool
is_point k r = eqb r.lo k && eqb r.hi k

abbrev pub mux_range : Option Range → Range → Range → Range
mux_range none y n = hull y n
mux_range (some c) y n = cond (is_point 0 c) n (cond (is_point 1 c) y (hull y n))

abbrev pub slice_range_of : ℕ → ℕ → Range → Range
slice_range_of lsb w r = cond (single r) (point (r.hi / 2 ^ lsb % 2 ^ w)) (record { lo = 0; hi = min (r.hi / 2 ^ lsb) (2 ^ w - 1) })

-- an operand wider than 64 bits has no range: the result has the full one
abbrev pub one : ℕ → Option Range → (Range → Range) → Range
one w none f = full w
one w (some r) f = f r

abbrev pub two : ℕ → Option Range → Option Range → (Range → Range → Range) → Range
two w none r f = full w
two w (some l) none f = full w
two w (some l) (some r) f = f l r

abbrev pub join_by : Option Range → ℕ → Range → Option Range
join_by none w acc = none
join_by (some r) w acc = some (record { lo = acc.lo * 2 ^ w + r.lo; hi = acc.hi * 2 ^ w + r.hi })

abbrev pub join_range : (ℕ → Option Range) → (ℕ → ℕ) → List ℕ → Option Range → Option Range
join_range g f [] acc = acc
join_range g f (p ∷ ps) none = none
join_range g f (p ∷ ps) (some acc) = join_range g f ps (join_by (g p) (f p) acc)

-- g: the ranges of the expressions before, f: their widths
abbrev pub kind_range : (ℕ → Option Range) → (ℕ → ℕ) → ℕ → Kind → Range
kind_range g f w (R.Signal s lsb) = full w
kind_range g f w (R.Constant n) = point (n % 2 ^ w)
kind_range g f w (R.Un op a) = full w
kind_range g f w (R.Bin op a b) = two w (g a) (g b) (binary_range (class_of op) w)
kind_range g f w (R.Mux c t e) = two w (g t) (g e) (mux_range (g c))
kind_range g f w (R.Concat ps) = one w (join_range g f ps (some (point 0))) (λ r. r)
kind_range g f w (R.Slice a lsb) = one w (g a) (slice_range_of lsb w)

abbrev pub range_rule : (ℕ → ℕ) → (ℕ → Option Range) → Expr → Option Range
range_rule f g x = cond (leb x.width 64) (some (kind_range g f x.width x.kind)) none

unfoldable pub range_at : List Expr → ℕ → Option Range
range_at xs e = entry none (range_rule (width_at xs)) xs e

abbrev pub narrow_by : ℕ → Option Range → Option ℕ
narrow_by w none = none
narrow_by w (some r) = let k = max 1 (bit_len 64 r.hi) in cond (ltb k w) (some k) none

-- `adder_widths`: the width that the Add numbered e is narrowed to, if it is
unfoldable pub adder_width : List Expr → ℕ → Option ℕ
adder_width xs e = narrow_by (width_at xs e) (range_at xs e)
