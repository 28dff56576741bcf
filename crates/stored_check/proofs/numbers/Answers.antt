-- `stored_check::numbers` meets its contract. Assumes nothing.
use Rattle.spec_call.specs.Call.{numbers_of}
use Rattle.stored_check.specs.Answer.{answer_of}
use Rattle.stored_check.proofs.numbers.Goals as goal

pub returns-in-Ok : goal.returns-in-Ok
unfolding answer_of numbers_of
returns-in-Ok c = rw c.in-Ok.is

pub returns-in-Err : goal.returns-in-Err
unfolding answer_of numbers_of
returns-in-Err c = rw c.in-Err.is
