-- `comparison` of word_cells.rs: the net that it gives stands for the comparison of the operands' words, found or made. Assumes nothing.
use Rattle.std.specs.Prelude.{◌≡◌, Bool}
use Rattle.std.proofs.Math.Path.{refl}
use mathlib.Core.List.{List, [], ◌∷◌, map}
use Prim.Native.Nat.{ℕ}
use Rattle.spec_rtl.specs.Ops.{lt_u, le_u, lt_s, le_s}
use Rattle.spec_model.specs.Builder.{from, ComparisonOp, LessThanUnsigned, LessOrEqualUnsigned, LessThanSigned, LessOrEqualSigned}
use Rattle.law_nets.specs.Meaning.{net_value}
use Rattle.law_nets.specs.Sound.{At}

-- the comparison's answer
abbrev pub answer : ComparisonOp → List Bool → List Bool → Bool
answer LessThanUnsigned a b = lt_u a b
answer LessOrEqualUnsigned a b = le_u a b
answer LessThanSigned a b = lt_s a b
answer LessOrEqualSigned a b = le_s a b

abbrev pub Compares : ComparisonOp → List ℕ → List ℕ → At (List Bool)
Compares op lhs rhs h s c = answer op (map (net_value h s c) lhs) (map (net_value h s c) rhs) ∷ []

pub from_one : (b : ℕ) → from b 1 ≡ b ∷ []
unfolding from
from_one b = refl
