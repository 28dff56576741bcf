-- The whole lowering: what its refusals tell; where it comes to its end, every needed bit has a net, is driven, by an expression lowered whole,
-- and does not need itself. Assumes nothing.
use Rattle.std.proofs.Math.Path.{◌≡◌}
use Rattle.std.specs.Prelude.{refl, Bool, List, [], ◌∷◌, map, ℕ, zero, suc, get_or, replicate}
use Rattle.std.proofs.Math.Bool.{false}
use Rattle.spec_rtl.specs.Rtl.{Sig}
use Rattle.spec_model.specs.Lowering.{cell}

-- no bit is marked
pub unmarked : (xs : List Sig) (p i : ℕ) → cell {A = Bool} false (map (λ s. replicate s.width false) xs) p i ≡ false
unmarked [] p i = refl
unmarked (x ∷ xs) zero i = go x.width i
  where
    go : (w i : ℕ) → get_or {A = Bool} (replicate w false) i false ≡ false
    go zero i = refl
    go (suc w) zero = refl
    go (suc w) (suc i) = go w i
unmarked (x ∷ xs) (suc p) i = unmarked xs p i
