-- An error that `?` passes on. Assumes nothing.
use Rattle.std.specs.Prelude.{◌≡◌, Ok, Err, IsErr, IsErrAnd}
use Rattle.std.proofs.Common.{ap}
use Rattle.walk_view.specs.declared.Refusal.{Refusal}
use Rattle.walk_view.specs.Refusals.{Lowered}

-- what the exit returns, where the refusal stays as it is
pub err_is : (r : Lowered) (e : Refusal) → IsErr r × IsErrAnd r (λ y. y ≡ e) → r ≡ Err e
err_is (Ok u) e h = absurd h.1
err_is (Err y) e h = ap {B = Lowered} (λ (z : Refusal). Err z) h.1
