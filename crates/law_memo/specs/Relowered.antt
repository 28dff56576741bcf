-- One step of lowering again, from a state with the same netlist and signal bits and some of the expressions' nets: the steps of an expression whose bits have
-- nets have nets themselves, and are lowered if each of them is. Assumes nothing.
use Rattle.std.specs.Prelude.{◌≡◌, Bool}
use Rattle.std.proofs.Common.{◌∙◌}
use Rattle.std.proofs.Math.Bool.{true, false}
use mathlib.Core.List.{List, [], ◌∷◌}
use Rattle.std.proofs.Math.Option.{Option, some}
use Prim.Native.Nat.{ℕ, ◌+◌, ◌*◌, ◌-◌, ◌≤◌, ◌<◌}
use native.Mathlib.Omega.{arith}
use Rattle.spec_rtl.specs.Rtl as R
use Rattle.spec_rtl.specs.Rtl.{Kind}
use Rattle.spec_model.specs.Lowering.{Need, Bit, Whole, Range, backwards}
use Rattle.word_laws.specs.Widths.{sum_of}
use Rattle.law_walk.specs.Tables.{Has}

-- what a need costs where no signal bit is to be resolved
abbrev pub cost_of : Need → ℕ
cost_of (Bit s b) = 0
cost_of (Whole e) = 2 * e + 1
cost_of (Range e lsb w) = 2 * e + 2

-- a Mux, whose steps depend on its condition
abbrev pub is_mux : Kind → Bool
is_mux (R.Signal s lsb) = false
is_mux (R.Constant n) = false
is_mux (R.Un op a) = false
is_mux (R.Bin op a b) = false
is_mux (R.Mux c t d) = true
is_mux (R.Concat ps) = false
is_mux (R.Slice a lsb) = false

pub sum_turned : (g : ℕ → ℕ) (ps acc : List ℕ) → sum_of g (backwards ps acc) ≡ sum_of g ps + sum_of g acc
sum_turned g [] acc = omega arith
sum_turned g (p ∷ ps) acc = sum_turned g ps (p ∷ acc) ∙ omega arith

pub has : {o : Option ℕ} {n : ℕ} → o ≡ some n → Has o
has {n} h = record { value = n; is = h }

-- the numbers of a piece
pub up : (lo hi at b : ℕ) → at ≤ lo → lo - at ≤ b → b < lo - at + (hi - lo) → at + b < hi
up lo hi at b h x y = omega arith
