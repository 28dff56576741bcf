-- Worked cases of ranges and narrowing beside the bench's (crate `bench`), by computation: a sum that wraps; Or and Xor (request Q-5).
-- Assumes nothing.
use Rattle.std.specs.Prelude.{◌≡◌, refl, List, [], ◌∷◌, ℕ, ◌+◌}
use Rattle.std.proofs.Math.Option.{none, some}
use Rattle.spec_rtl.specs.Rtl as R
use Rattle.spec_rtl.specs.Rtl.{Expr, Kind}
use Rattle.spec_model.specs.Ranges.{Range, OrGate, XorGate, Bitwise, range_at, binary_range, adder_width, point}

abbrev expr : ℕ → Kind → Expr
expr w k = record { width = w; kind = k }

-- an Add of two constants of 8 bits
abbrev constants : ℕ → ℕ → List Expr
constants m n = expr 8 (R.Constant m) ∷ expr 8 (R.Constant n) ∷ expr 8 (R.Bin R.Add 0 1) ∷ []

-- 255 + 1 wraps: its range is 0
wrapped : range_at (constants 255 1) 2 ≡ some (point 0)
unfolding range_at binary_range
wrapped = refl

-- ---- Or and Xor (Q-5) ----

abbrev up_to : ℕ → Range
up_to m = record { lo = 0; hi = m }

-- all ones up to the bit length of the larger maximum: of 0, of 5 and 8, of 2 ^ 63
or_of_zero : (w : ℕ) → binary_range (Bitwise OrGate) w (point 0) (point 0) ≡ point 0
unfolding binary_range
or_of_zero w = refl

xor_of_two : (w : ℕ) → binary_range (Bitwise XorGate) w (up_to 5) (up_to 8) ≡ up_to 15
unfolding binary_range
xor_of_two w = refl

or_of_64_bits : binary_range (Bitwise OrGate) 64 (point 1) (up_to 9223372036854775808) ≡ up_to 18446744073709551615
unfolding binary_range
or_of_64_bits = refl

-- the minimum is 0 also where both operands are constant
or_of_constants : (w : ℕ) → binary_range (Bitwise OrGate) w (point 4) (point 3) ≡ up_to 7
unfolding binary_range
or_of_constants w = refl

-- ({z zeros, a} op {z zeros, b}) + {z zeros, a}, where a and b have w bits
abbrev joined : R.Binary → ℕ → ℕ → List Expr
joined op w z =
    expr w (R.Signal 0 0) ∷ expr w (R.Signal 1 0) ∷ expr z (R.Constant 0) ∷ expr (w + z) (R.Concat (2 ∷ 0 ∷ [])) ∷ expr (w + z) (R.Concat (2 ∷ 1 ∷ []))
    ∷ expr (w + z) (R.Bin op 3 4) ∷ expr (w + z) (R.Bin R.Add 5 3) ∷ []

or_narrowed : adder_width (joined R.Or 4 4) 6 ≡ some 5
unfolding adder_width range_at binary_range
or_narrowed = refl

xor_narrowed : adder_width (joined R.Xor 32 32) 6 ≡ some 33
unfolding adder_width range_at binary_range
xor_narrowed = refl

-- above 64 bits there is no range
or_65_bits : adder_width (joined R.Or 3 62) 6 ≡ none
unfolding adder_width range_at binary_range
or_65_bits = refl
