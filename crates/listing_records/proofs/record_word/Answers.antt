-- `listing_records::record_word` meets its contract. Assumes nothing.
use Rattle.std.proofs.Common.{refl, sym, arith}
use Rattle.listing_records.specs.Pieces.{record_word, other_word}
use Rattle.listing_records.proofs.record_word.Goals as goal

pub returns-in-1 : goal.returns-in-1
unfolding record_word
returns-in-1 c = rw c.in-1.is refl

pub returns-in-2 : goal.returns-in-2
unfolding record_word
returns-in-2 c = rw c.in-2.is refl

pub returns-in-3 : goal.returns-in-3
unfolding record_word
returns-in-3 c = rw c.in-3.is refl

pub returns-in-4 : goal.returns-in-4
unfolding record_word
returns-in-4 c = rw c.in-4.is refl

pub returns-in_default : goal.returns-in_default
returns-in_default c = sym (other_word _ (λ e. omega arith) (λ e. omega arith) (λ e. omega arith) (λ e. omega arith))
