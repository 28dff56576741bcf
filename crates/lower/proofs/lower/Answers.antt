-- `lower::lower` meets its contract. Assumes nothing.
use mathlib.Core.Path.{refl, sym, ap, ◌∙◌}
use lib.Seq.{length-take-le}
use Rattle.std.specs.Prelude.{Err}
use Rattle.std.proofs.lemmas.Result.{err_from_is_err_and}
use Rattle.lower_outcome.specs.Answer.{answer_of}
use Rattle.lower.proofs.Ends.{not_fine, refused_way, good, netlist_fits, scratch_fits, lent, room_is, lowered_way}
use Rattle.lower.proofs.lower.Goals as goal

pub returns-in_err-check : goal.returns-in_err-check
returns-in_err-check c =
    let a = c.args in
    let p = err_from_is_err_and c.from_residual.result c.from_residual.ensures.1 in
    refused_way a.image.now a.n a.p a.netlist.now a.scratch.now _ _ c.in_err-check.ensures (not_fine c.in_err-check.field-0.0) (ap answer_of p.1 ∙ p.2)

pub scratch_need-need-requires : goal.scratch_need-need-requires
scratch_need-need-requires c =
    let a = c.args in
    good a.image.now a.n a.p a.netlist.now a.scratch.now (sym c.in_ok-check.ensures)

pub slice_bounds-lower_accepted-end : goal.slice_bounds-lower_accepted-end
slice_bounds-lower_accepted-end c =
    let a = c.args in
    netlist_fits a.image.now a.n a.p a.netlist.now a.scratch.now (sym c.in_ok-check.ensures)

pub slice_bounds-lower_accepted-end-2 : goal.slice_bounds-lower_accepted-end-2
slice_bounds-lower_accepted-end-2 c =
    let a = c.args in
    sym (length-take-le _ a.netlist.now (netlist_fits a.image.now a.n a.p a.netlist.now a.scratch.now (sym c.in_ok-check.ensures)))

pub slice_bounds-lower_accepted-end-3 : goal.slice_bounds-lower_accepted-end-3
slice_bounds-lower_accepted-end-3 c =
    let a = c.args in
    scratch_fits a.image.now a.n a.p a.netlist.now a.scratch.now (sym c.in_ok-check.ensures) _ c.scratch_need-need.ensures

pub slice_bounds-lower_accepted-end-4 : goal.slice_bounds-lower_accepted-end-4
slice_bounds-lower_accepted-end-4 c =
    let a = c.args in
    sym (length-take-le _ a.scratch.now (scratch_fits a.image.now a.n a.p a.netlist.now a.scratch.now (sym c.in_ok-check.ensures) _ c.scratch_need-need.ensures))

pub lower_accepted-r-requires : goal.lower_accepted-r-requires
lower_accepted-r-requires c =
    let a = c.args in
    lent a.image.now a.n a.p a.netlist.now a.scratch.now (sym c.in_ok-check.ensures) _ _ refl c.scratch_need-need.ensures

pub returns : goal.returns
returns c =
    let a = c.args in
    let y = c.lower_accepted-r in
    let f = sym c.in_ok-check.ensures in
    lowered_way a.image.now a.n a.p a.netlist.now a.scratch.now f _ _ _ y.result _ y.new.net y.new.scr refl c.scratch_need-need.ensures
    (room_is a.image.now a.n a.p a.netlist.now a.scratch.now f _ refl) y.ensures c.of_walk.ensures
