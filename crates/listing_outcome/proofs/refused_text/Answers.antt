-- `listing_outcome::refused_text` meets its contract. Assumes nothing.
use borrow.Author.Rules.{rules}
use native.Mathlib.Omega.{arith}
use Rattle.listing_whole.specs.Length.{refusal_short}
use Rattle.listing_outcome.specs.Written.{written}
use Rattle.listing_outcome.proofs.refused_text.Goals as goal

pub returns : goal.returns
returns c =
    let a = c.args in
    λ s ws. written (c.refused.ensures s ws)
    (omega (arith, c.requires, refusal_short a.n a.a a.b s ws (search rules) (search rules) (search rules)))
