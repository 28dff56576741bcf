-- Runs of numbers, `from b w`: b, b + 1, .. : their length, their elements, and one more at the end. Assumes nothing.
use Rattle.std.specs.Prelude.{◌≡◌, refl, List, [], ◌∷◌, ◌++◌, ℕ, zero, suc, ◌+◌, ◌<◌, length, get_or}
use Rattle.std.proofs.Common.{ap, ◌∙◌, arith}
use Rattle.spec_model.specs.Builder.{from}

pub length_from : (b w : ℕ) → length (from b w) ≡ w
unfolding from
length_from b zero = refl
length_from b (suc w) = ap suc (length_from (suc b) w)

pub from_at : (b w i d : ℕ) → i < w → get_or (from b w) i d ≡ b + i
unfolding from
from_at b zero i d h = absurd (omega arith)
from_at b (suc w) zero d h = omega arith
from_at b (suc w) (suc i) d h = from_at (suc b) w i d (omega arith) ∙ omega arith

pub from_snoc : (b w : ℕ) → from b (suc w) ≡ from b w ++ ((b + w) ∷ [])
unfolding from
from_snoc b zero = let e : b ≡ b + 0 = omega arith in ap (λ (k : ℕ). k ∷ []) e
from_snoc b (suc w) =
    let e : suc b + w ≡ b + suc w = omega arith in
    ap (λ (t : List ℕ). b ∷ t) (from_snoc (suc b) w ∙ ap (λ (k : ℕ). from (suc b) w ++ (k ∷ [])) e)
