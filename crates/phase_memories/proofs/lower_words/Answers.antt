-- `phase_memories::lower_words` meets its contract. Assumes nothing.
use mathlib.Core.Path.{refl}
use Rattle.image_records.specs.Others.{port_means}
use Rattle.walk_view.proofs.Errors.{err_is}
use Rattle.phase_memories.proofs.Laws.{read_given, read_out, write_given, write_out, data_given}
use Rattle.phase_memories.proofs.lower_words.Goals as goal

pub lower_expression-requires : goal.lower_expression-requires
unfolding port_means
lower_expression-requires c = (c.requires.0, c.requires.1, c.requires.2.read_address.there)

pub returns-in_err-lower_expression : goal.returns-in_err-lower_expression
returns-in_err-lower_expression c =
    let pre = c.requires in
    rw (err_is _ _ c.from_residual.ensures) (read_out _ _ _ c.args.p pre.0 pre.1 pre.2 _ _ _ c.in_err-lower_expression.ensures tt)

pub lower_expression-requires-2 : goal.lower_expression-requires-2
unfolding port_means
lower_expression-requires-2 c =
    let pre = c.requires in
    let g = read_given _ _ _ c.args.p pre.0 pre.1 pre.2 _ _ _ c.in_ok-lower_expression.ensures in
    (g.ready, g.sure refl, pre.2.write_address.there)

pub returns-in_err-lower_expression-2 : goal.returns-in_err-lower_expression-2
returns-in_err-lower_expression-2 c =
    let pre = c.requires in
    rw (err_is _ _ c.from_residual-in_err-lower_expression-2.ensures) (write_out _ _ _ c.args.p pre.0 pre.1 pre.2 _ _ _ c.in_ok-lower_expression.ensures refl _ _ _ c.in_err-lower_expression-2.ensures tt)

pub lower_expression-requires-3 : goal.lower_expression-requires-3
unfolding port_means
lower_expression-requires-3 c =
    let pre = c.requires in
    let g = write_given _ _ _ c.args.p pre.0 pre.1 pre.2 _ _ _ c.in_ok-lower_expression.ensures refl _ _ _ c.in_ok-lower_expression-2.ensures in
    (g.ready, g.sure refl, pre.2.write_data)

pub returns : goal.returns
returns c =
    let pre = c.requires in
    data_given _ _ _ c.args.p pre.0 pre.1 pre.2 _ _ _ c.in_ok-lower_expression.ensures refl _ _ _ c.in_ok-lower_expression-2.ensures refl _ _ _ c.lower_expression-3.ensures
