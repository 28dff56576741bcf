-- `listing_outcome::accepted_text` meets its contract. Assumes nothing.
use mathlib.Core.Path.{refl}
use native.Mathlib.Omega.{arith}
use Rattle.listing_outcome.specs.Written.{written}
use Rattle.listing_outcome.proofs.accepted_text.Goals as goal

pub returns : goal.returns
returns c =
    written c.listing.ensures
    (omega (arith, c.requires.room, c.requires.short refl (λ i. omega (arith, c.shared_slice_known-2-1.given i))))
