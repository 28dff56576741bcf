-- The whole text of the listing, piece by piece.
use Rattle.std.specs.Prelude.{ℕ, List, [], ◌∷◌, ◌++◌, map, ◌≡◌, get_or}
use Rattle.std.proofs.Common.{append_assoc, ◌∙◌}
use Rattle.spec_tests.specs.Rules.{list_of, Fine, Refused}
use Rattle.spec_rules.specs.NetlistImage.{records_of}
use Rattle.spec_rules.specs.Listing.{text, decimal, together, net_line, record_line, listing}
use Rattle.listing_text.specs.Text.{Wrote, wrote_more, spaced, line_spaced}
use Rattle.listing_nets.specs.Pieces.{first_line}

pub listing_wrote : (s ws : List ℕ) {o : List ℕ} {at : ℕ} {o₁ : List ℕ} {p : ℕ} {o₂ : List ℕ} {q : ℕ} {o₃ : List ℕ} {r : ℕ}
    → Wrote o at (first_line ws) o₁ p → Wrote o₁ p (together (list_of (get_or ws 1 0) (net_line s ws))) o₂ q → Wrote o₂ q (together (map (record_line s) (records_of ws))) o₃ r
    → Wrote o at (listing s Fine ws) o₃ r
unfolding listing first_line
listing_wrote s ws a b c = wrote_more a (wrote_more b c)

pub refusal : (n a b : ℕ) (s ws : List ℕ) → listing s (Refused n a b) ws ≡ text "refused" ++ ((32 ∷ decimal n) ++ ((32 ∷ decimal a) ++ ((32 ∷ decimal b) ++ (10 ∷ []))))
unfolding listing spaced
refusal n a b s ws = line_spaced _ _ ∙ simp append_assoc
