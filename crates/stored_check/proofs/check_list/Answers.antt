-- `stored_check::check_list` meets its contract. Assumes nothing.
use Rattle.check_image.specs.Checked.{then_fine, then_refused}
use Rattle.stored_check.specs.Answer.{answer_of}
use Rattle.stored_check.proofs.check_list.Goals as goal

pub returns-in-Some : goal.returns-in-Some
unfolding answer_of
returns-in-Some c = then_refused _ 11 _ 0 c.in-Some.ensures.0

pub returns : goal.returns
returns c = then_fine c.in_default.ensures.0 c.check_rest.ensures
