-- The promise of the lowering call, and the listing program's text: those of `spec_rules`, with the lowering model put in. Assumes nothing.
use Rattle.std.specs.Prelude.{ℕ, List, [], ◌∷◌}
use Rattle.spec_tests.specs.Rules.{Answer, Fine, Refused}
use Rattle.spec_rules.specs.Promise as Promise
use Rattle.spec_rules.specs.Listing as Listing
use Rattle.spec_model.specs.Words.{Netlist, words}
use Rattle.spec_model.specs.Builder.{Out, refused, done}
use Rattle.spec_model.specs.Lowering.{lower}

-- what a lowering comes to: accepted, or refusal 6 to 10 with its place
unfoldable pub outcome : Out Netlist → Answer
outcome (refused n x y) = Refused n x y
outcome (done l) = Fine

-- the netlist image of an accepted one
unfoldable pub image_of : ℕ → ℕ → Out Netlist → List ℕ
image_of N P (refused n x y) = []
image_of N P (done l) = words N P l

-- the answer for an image under limits N and P with these two lent buffers, and the buffers at exit
abbrev pub answer : List ℕ → ℕ → ℕ → List ℕ → List ℕ → Answer
answer s N P buffer scratch = Promise.answer lower outcome image_of s N P buffer scratch

abbrev pub buffer_after : List ℕ → ℕ → ℕ → List ℕ → List ℕ → List ℕ
buffer_after s N P buffer scratch = Promise.buffer_after lower outcome image_of s N P buffer scratch

abbrev pub scratch_after : List ℕ → ℕ → ℕ → List ℕ → List ℕ → List ℕ
scratch_after s N P buffer scratch = Promise.scratch_after lower outcome image_of s N P buffer scratch

-- the call, given s, N, P and these two buffers, answered a and left these two
abbrev pub Lowered : List ℕ → ℕ → ℕ → List ℕ → List ℕ → Answer → List ℕ → List ℕ → Type 0
Lowered s N P buffer scratch a buffer' scratch' = Promise.Promise lower outcome image_of s N P buffer scratch a buffer' scratch'

-- the three numbers of an answer: the refusal's number and its two place numbers, all 0 for acceptance
unfoldable pub numbers_of : Answer → List ℕ
numbers_of Fine = 0 ∷ 0 ∷ 0 ∷ []
numbers_of (Refused n a b) = n ∷ a ∷ b ∷ []

-- what the listing program writes for an input
abbrev pub program : List ℕ → List ℕ
program input = Listing.program lower outcome image_of input
