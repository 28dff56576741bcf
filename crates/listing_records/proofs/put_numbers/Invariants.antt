-- `listing_records::put_numbers` meets its contract. Assumes nothing.
use Rattle.listing_records.specs.Pieces.{Numbers}
use Rattle.listing_records.proofs.put_numbers.Given as goal

abbrev pub invariant-loop-word : goal.invariant-loop-word
invariant-loop-word l = Numbers l.words l.initial.out l.at l.out l.to l.word-index
