-- What a computation under limits tells of it without, and under larger ones. Assumes nothing.
use Rattle.std.specs.Prelude.{◌≡◌, ℕ}
use Rattle.std.proofs.Common.{ap, arith}
use Rattle.spec_model.specs.Builder.{Out, refused, done}

-- ---- outcomes ----

abbrev done_or : {Y : Type 0} → Y → Out Y → Y
done_or y (refused k a b) = y
done_or y (done z) = z

pub done_is : {Y : Type 0} {y z : Y} → done y ≡ done z → y ≡ z
done_is {y} e = ap (done_or y) e

abbrev told : {Y : Type 0} → Out Y → ℕ × ℕ × ℕ
told (refused k x y) = (k, x, y)
told (done z) = (0, 0, 0)

pub refused_is : {Y : Type 0} {k x y k' x' y' : ℕ} → ◌≡◌ {A = Out Y} (refused k x y) (refused k' x' y') → (k ≡ k') × (x ≡ x') × (y ≡ y')
refused_is e = (ap (λ o. (told o).0) e, ap (λ o. (told o).1) e, ap (λ o. (told o).2) e)

pub not_done : {Y : Type 0} {k x y : ℕ} {z : Y} → refused k x y ≡ done z → ⊥
not_done e = let z : ◌≡◌ {A = ℕ} 0 1 = cc in absurd (omega arith)
