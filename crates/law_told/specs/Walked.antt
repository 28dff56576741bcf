-- The records of an accepted image, given one by one, are those that `netlist` reads. Assumes nothing.
use Prim.Native.Nat.{ℕ, zero, suc, ◌+◌, ◌-◌}
use native.Mathlib.Omega.{arith}
use Rattle.std.specs.Prelude.{◌≡◌}
use Rattle.std.proofs.Math.Path.{refl, ap}
use Rattle.std.proofs.Common.{◌∙◌}
use mathlib.Core.List.{List, [], ◌∷◌}
use Rattle.std.proofs.Math.ListN.{take, drop}
use Rattle.spec_netlist.specs.Accept.{used, list_at_of}
use Rattle.spec_netlist.specs.Given.{list_from}

pub drop_take : (k m : ℕ) (l : List ℕ) → drop k (take m l) ≡ take (m - k) (drop k l)
drop_take zero m l = let e : m ≡ m - 0 = omega arith in ap (λ (z : ℕ). take z l) e
drop_take (suc k) zero l = let e : 0 ≡ 0 - suc k = omega arith in ap (λ (z : ℕ). take z (drop (suc k) l)) e
drop_take (suc k) (suc m) [] = take_none (suc m - suc k)
  where
    take_none : (z : ℕ) → [] ≡ take {A = ℕ} z []
    take_none zero = refl
    take_none (suc z) = refl
drop_take (suc k) (suc m) (x ∷ l) = let e : m - k ≡ suc m - suc k = omega arith in drop_take k m l ∙ ap (λ (z : ℕ). take z (drop k l)) e

-- the whole list
pub list_whole : (ws : List ℕ) → take (used ws) (drop (list_at_of ws) ws) ≡ list_from ws 0
list_whole ws =
    let z : used ws ≡ used ws - 0 = omega arith in
    let y : list_at_of ws ≡ list_at_of ws + 0 = omega arith in
    ap (λ (k : ℕ). take k (drop (list_at_of ws) ws)) z ∙ ap (λ (k : ℕ). take (used ws - 0) (drop k ws)) y
