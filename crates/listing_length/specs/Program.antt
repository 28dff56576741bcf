-- The listing program's text is the listing of what the lowering call answers and leaves, for the first 32,768 bytes, 1,024 nets, 2,048 list
-- words and 8,192 words of scratch; and it has at most 327,680 bytes. Assumes nothing.
use Rattle.std.specs.Prelude.{ℕ, ◌≤◌, List, ◌≡◌, length, take, replicate}
use Rattle.std.proofs.Common.{sym, ◌∙◌, arith}
use Rattle.spec_tests.specs.Rules.{Answer, Fine}
use Rattle.spec_rules.specs.Checks.{netlist_need}
use Rattle.spec_rules.specs.Listing as Listing
use Rattle.spec_rules.specs.Listing.{listing}
use Rattle.spec_call.specs.Call as Call
use Rattle.listing_whole.specs.Length.{AllSmall}
use Rattle.listing_length.specs.Short.{accepted_short}

abbrev text_of : List ℕ → List ℕ → List ℕ → List ℕ
text_of s b c = listing s (Call.answer s 1024 2048 b c) (Call.buffer_after s 1024 2048 b c)

module _ {s b c : List ℕ} {a : Answer} {b' c' : List ℕ} (call : Call.Lowered s 1024 2048 b c a b' c') where
  text_is : listing s a b' ≡ text_of s b c
  text_is = rw (call.answered, call.left_buffer)

  -- the text of what the call answered and left is the program's
  pub program_is : (input : List ℕ) (n : ℕ) → n ≡ netlist_need 1024 2048 → s ≡ take 32768 input → b ≡ replicate n 0 → c ≡ replicate 8192 0
      → listing s a b' ≡ Call.program input
  unfolding Listing.program
  program_is input n e i j k = text_is ∙ rw (i, j, k, e)

  -- and there is room for it
  pub program_short : length b ≡ netlist_need 1024 2048 → a ≡ Fine → AllSmall b' → length (listing s Fine b') ≤ 327680
  program_short n fine small =
      rw call.left_buffer (omega (arith, accepted_short s 1024 2048 b c n (sym call.answered ∙ fine) (rw call.left_buffer at small)))
