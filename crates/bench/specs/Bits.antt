-- Demand 2 is no empty claim: for y = ~a it holds of the nets that the lowering gives, and fails where the net of a stands for ~a.
use Rattle.std.specs.Prelude.{ℕ, zero, suc, ◌≡◌, refl, true, false, [], ◌∷◌}
use Rattle.std.proofs.Common.{ap, arith}
use Rattle.std.proofs.Math.Option.{Option, none, some, none-ne-some, some-injective}
use Rattle.spec_rtl.specs.Rtl as R
use Rattle.spec_rules.specs.NetlistImage as N
use Rattle.spec_rules.specs.Step.{Contents, Demand2, net}

abbrev inverter : R.Module
inverter = record {
  signals = record { width = 1; dir = R.Input } ∷ record { width = 1; dir = R.Output } ∷ [];
  exprs = record { width = 1; kind = R.Signal 0 0 } ∷ record { width = 1; kind = R.Un R.BitNot 0 } ∷ [];
  assigns = record { signal = 1; lsb = 0; width = 1; value = 1 } ∷ [];
  registers = [];
  memories = [];
}

abbrev gates : N.Netlist
gates = record {
  nodes = N.Input 0 0 ∷ N.Not 0 ∷ N.Output 1 ∷ [];
  outputs = record { signal = 1; nets = 2 ∷ [] } ∷ [];
  registers = [];
  memories = [];
  arithmetic = [];
  comparisons = [];
}

-- bit 0 of expression 0 has net 0, that of expression 1 the net given
abbrev nets : ℕ → ℕ → ℕ → Option ℕ
nets k zero zero = some 0
nets k zero (suc b) = none
nets k (suc zero) zero = some k
nets k (suc zero) (suc b) = none
nets k (suc (suc e)) b = none

pub holds : Demand2 inverter gates (nets 1)
holds u s c zero zero k e = ap (λ (i : ℕ). some (net gates s c i)) (some-injective 0 k e)
holds u s c zero (suc b) k e = absurd (none-ne-some k e)
holds u s c (suc zero) zero k e = ap (λ (i : ℕ). some (net gates s c i)) (some-injective 1 k e)
holds u s c (suc zero) (suc b) k e = absurd (none-ne-some k e)
holds u s c (suc (suc e')) b k e = absurd (none-ne-some k e)

differ : some true ≡ some false → ⊥
differ e = let z : ◌≡◌ {A = ℕ} 0 1 = cc in absurd (omega arith)

abbrev empty : Contents
empty = record { reg = λ k i. false; dat = λ k second i. false; mem = λ k at i. false }

pub fails : Demand2 inverter gates (nets 0) → ⊥
fails d = differ (d (λ p i. false) (λ p i. false) empty 1 0 0 refl)
