-- What falls where `listing_text::decimal` calls itself.
use Rattle.listing_text.proofs.+decimal.Given as goal

abbrev pub decreases-decimal : goal.decreases-decimal
decreases-decimal l = l.n
