-- The rank of a need, and that each of its steps has a lower one: operands have lower numbers. Assumes nothing.
use Rattle.std.specs.Prelude.{length}
use mathlib.Core.List.{List, [], ◌∷◌}
use Prim.Native.Nat.{ℕ, ◌+◌, ◌*◌, ◌<◌}
use Rattle.spec_rtl.specs.Rtl.{Module}
use Rattle.spec_model.specs.Lowering.{Need, Bit, Whole, Range, Step}
use Rattle.law_walk.specs.Reads.{need_of}

abbrev pub rank : Need → ℕ
rank (Bit s b) = 0
rank (Whole e) = 2 * e + 1
rank (Range e lsb w) = 2 * e + 2

-- each step's rank is below g
abbrev pub AllRank : ℕ → List Step → Type 0
AllRank g [] = Unit {0}
AllRank g (s ∷ ss) = (rank (need_of s) < g) × AllRank g ss

-- above the rank of any need of the module
abbrev pub most : Module → ℕ
most m = 2 * length m.exprs + 1
