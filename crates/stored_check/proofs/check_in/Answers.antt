-- `stored_check::check_in` meets its contract. Assumes nothing.
use Rattle.std.proofs.Common.{refl, sym, ◌∙◌, arith}
use Rattle.stored_view.specs.Found.{some_first, none_first}
use Rattle.stored_check.specs.Answer.{answer_of}
use Rattle.stored_check.specs.Stages.{header_wrong, header_right, length_wrong, length_right, header_passed}
use Rattle.stored_header.specs.Header.{opens, short_few, header_whole}
use Rattle.stored_check.proofs.check_in.Goals as goal

pub overflow_cast-result : goal.overflow_cast-result
overflow_cast-result c = omega (arith, (some_first _ c.in-Some.ensures).0)

pub returns-in-Some : goal.returns-in-Some
unfolding answer_of
returns-in-Some c = let s = some_first _ c.in-Some.ensures in header_wrong c.args.net.now s.1 s.0

pub overflow_cast-result-then-too_short : goal.overflow_cast-result-then-too_short
overflow_cast-result-then-too_short c =
    let ws = c.args.net.now in
    omega (arith, short_few ws (header_passed ws refl refl (none_first _ c.in_default.ensures)) (sym c.too_short.ensures ∙ c.if-too_short.true))

pub returns-then-too_short : goal.returns-then-too_short
unfolding answer_of
returns-then-too_short c =
    let ws = c.args.net.now in
    header_right ws refl (none_first _ c.in_default.ensures) (length_wrong ws (sym c.too_short.ensures ∙ c.if-too_short.true))

pub check_with-requires : goal.check_with-requires
check_with-requires c =
    let ws = c.args.net.now in
    let s = sym c.too_short.ensures ∙ c.if-too_short.false in
    let o = opens ws (header_whole ws (header_passed ws refl refl (none_first _ c.in_default.ensures)) s) s in
    (o, c.requires o.few_nets)

pub returns : goal.returns
returns c =
    let ws = c.args.net.now in
    header_right ws refl (none_first _ c.in_default.ensures) (length_right ws (sym c.too_short.ensures ∙ c.if-too_short.false) c.check_with.ensures)
