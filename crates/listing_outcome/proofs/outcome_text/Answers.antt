-- `listing_outcome::outcome_text` meets its contract. Assumes nothing.
use Rattle.listing_outcome.proofs.outcome_text.Goals as goal

pub accepted_text-requires : goal.accepted_text-requires
accepted_text-requires c =
    record { room = c.requires.room; short = λ _. c.requires.short (rw c.in-Ok.is) }

pub returns-in-Ok : goal.returns-in-Ok
returns-in-Ok c = rw c.in-Ok.is c.accepted_text.ensures

pub returns-in-Err : goal.returns-in-Err
returns-in-Err c = rw c.in-Err.is (c.refusal_text.ensures _ _)
