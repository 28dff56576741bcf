-- `stored_check::check_with` meets its contract. Assumes nothing.
use Rattle.std.proofs.Common.{refl, arith}
use Rattle.stored_view.specs.Found.{some_first, none_first}
use Rattle.stored_check.specs.Answer.{answer_of}
use Rattle.stored_check.specs.Stages.{nodes_wrong, nodes_right}
use Rattle.stored_check.proofs.check_with.Goals as goal

pub overflow_cast-result : goal.overflow_cast-result
overflow_cast-result c = omega (arith, (some_first _ c.in-Some.ensures).0, c.requires.0.list_starts, c.requires.0.near)

pub overflow_add-result : goal.overflow_add-result
overflow_add-result c = omega (arith, (some_first _ c.in-Some.ensures).0, c.requires.0.list_starts, c.requires.0.near)

pub returns-in-Some : goal.returns-in-Some
unfolding answer_of
returns-in-Some c = let s = some_first _ c.in-Some.ensures in nodes_wrong c.args.net.now s.1 s.0

pub returns : goal.returns
returns c = nodes_right c.args.net.now refl (none_first _ c.in_default.ensures) c.check_list.ensures
