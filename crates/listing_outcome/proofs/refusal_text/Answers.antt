-- `listing_outcome::refusal_text` meets its contract. Assumes nothing.
use Rattle.listing_outcome.proofs.refusal_text.Goals as goal

pub returns-in-Limits : goal.returns-in-Limits
returns-in-Limits c = λ s ws. rw c.in-Limits.is (c.refused_text.ensures s ws)

pub returns-in-NetlistShort : goal.returns-in-NetlistShort
returns-in-NetlistShort c = λ s ws. rw c.in-NetlistShort.is (c.refused_text-in-NetlistShort.ensures s ws)

pub returns-in-Field : goal.returns-in-Field
returns-in-Field c = λ s ws. rw c.in-Field.is (c.refused_text-in-Field.ensures s ws)

pub returns-in-Record : goal.returns-in-Record
returns-in-Record c = λ s ws. rw c.in-Record.is (c.refused_text-in-Record.ensures s ws)

pub returns-in-ScratchShort : goal.returns-in-ScratchShort
returns-in-ScratchShort c = λ s ws. rw c.in-ScratchShort.is (c.refused_text-in-ScratchShort.ensures s ws)

pub returns-in-Undriven : goal.returns-in-Undriven
returns-in-Undriven c = λ s ws. rw c.in-Undriven.is (c.refused_text-in-Undriven.ensures s ws)

pub returns-in-Loop : goal.returns-in-Loop
returns-in-Loop c = λ s ws. rw c.in-Loop.is (c.refused_text-in-Loop.ensures s ws)

pub returns-in-Reset : goal.returns-in-Reset
returns-in-Reset c = λ s ws. rw c.in-Reset.is (c.refused_text-in-Reset.ensures s ws)

pub returns-in-TooManyNets : goal.returns-in-TooManyNets
returns-in-TooManyNets c = λ s ws. rw c.in-TooManyNets.is (c.refused_text-in-TooManyNets.ensures s ws)

pub returns-in-ListFull : goal.returns-in-ListFull
returns-in-ListFull c = λ s ws. rw c.in-ListFull.is (c.refused_text-in-ListFull.ensures s ws)
