-- `stored_check::check_rest` meets its contract. Assumes nothing.
use Rattle.std.proofs.Common.{refl, arith}
use Rattle.stored_view.specs.Found.{some_first, none_first}
use Rattle.stored_check.specs.Answer.{answer_of}
use Rattle.stored_check.specs.Stages.{left_wrong, left_right, count_wrong, count_right}
use Rattle.stored_check.proofs.check_rest.Goals as goal

pub overflow_mul-result : goal.overflow_mul-result
overflow_mul-result c = omega (arith, (some_first _ c.in-Some.ensures).0, c.requires.0.few_nets)

pub overflow_add-result : goal.overflow_add-result
overflow_add-result c = omega (arith, (some_first _ c.in-Some.ensures).0, c.requires.0.few_nets)

pub overflow_add-result-in-Some-first_count : goal.overflow_add-result-in-Some-first_count
overflow_add-result-in-Some-first_count c = omega (arith, (some_first _ c.in-Some-first_count.ensures).0)

pub overflow_cast-result : goal.overflow_cast-result
overflow_cast-result c = omega (arith, (some_first _ c.in-Some-first_count.ensures).0)

pub returns-in-Some : goal.returns-in-Some
unfolding answer_of
returns-in-Some c = let s = some_first _ c.in-Some.ensures in left_wrong c.args.net.now s.1 s.0

pub returns-in-Some-first_count : goal.returns-in-Some-first_count
unfolding answer_of
returns-in-Some-first_count c =
    let s = some_first _ c.in-Some-first_count.ensures in
    left_right c.args.net.now refl (none_first _ c.in_default.ensures) (count_wrong c.args.net.now s.1 s.0)

pub returns : goal.returns
unfolding answer_of
returns c =
    left_right c.args.net.now refl (none_first _ c.in_default.ensures) (count_right c.args.net.now refl (none_first _ c.in_default-first_count.ensures))
