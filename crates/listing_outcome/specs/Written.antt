-- When a text stands at the start of a buffer, and when there is room for an answer's.
use Rattle.std.specs.Prelude.{ℕ, ◌≤◌, List, ◌≡◌, length, take}
use Rattle.std.proofs.Common.{◌∙◌}
use Rattle.spec_tests.specs.Rules.{Answer, Fine}
use Rattle.spec_rules.specs.Listing.{listing}
use Rattle.listing_text.specs.Text.{Wrote, wrote_whole}
use Rattle.listing_whole.specs.Length.{AllSmall}

-- t is the first r bytes of the buffer o
pub record Written (t o : List ℕ) (r : ℕ) : Type 0 where
  pub text : take r o ≡ t
  pub upto : r ≤ length o

-- the buffer o has room for the text of the answer a for the image s and the netlist words ws
pub record Room (s : List ℕ) (a : Answer) (ws o : List ℕ) : Type 0 where
  pub room : 327680 ≤ length o
  pub short : a ≡ Fine → AllSmall ws → length (listing s Fine ws) ≤ 327680

-- a text for which there is room was written whole
pub written : {o t o' : List ℕ} {r : ℕ} → Wrote o 0 t o' r → length t ≤ length o → Written t o' r
written w h = record { text = wrote_whole w h; upto = w.upto }

-- the same text by another name
pub written_same : {t u o : List ℕ} {r : ℕ} → t ≡ u → Written t o r → Written u o r
written_same e w = record { text = w.text ∙ e; upto = w.upto }
