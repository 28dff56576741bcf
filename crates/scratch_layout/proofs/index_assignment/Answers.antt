-- `scratch_layout::index_assignment` meets its contract: the place of its bits from the fields and the first bit of the signal. Assumes nothing.
use native.Mathlib.Omega.{arith}
use Rattle.scratch_layout.proofs.Ways.{assign_place, assign_way}
use Rattle.scratch_layout.proofs.index_assignment.Goals as goal

pub bounds-scr-column : goal.bounds-scr-column
bounds-scr-column c =
    let r = assign_place c.args.image.now c.args.scr.now c.args.a _ _ _ _ c.requires.0 c.requires.1 c.record_field-p.ensures c.record_field-lsb.ensures c.record_field-n.ensures c.record_field-e.ensures in
    omega arith

pub put_drivers-requires : goal.put_drivers-requires
put_drivers-requires c =
    let r = assign_place c.args.image.now c.args.scr.now c.args.a _ _ _ _ c.requires.0 c.requires.1 c.record_field-p.ensures c.record_field-lsb.ensures c.record_field-n.ensures c.record_field-e.ensures in
    omega arith

pub returns : goal.returns
returns c =
    let r = assign_place c.args.image.now c.args.scr.now c.args.a _ _ _ _ c.requires.0 c.requires.1 c.record_field-p.ensures c.record_field-lsb.ensures c.record_field-n.ensures c.record_field-e.ensures in
    assign_way c.args.image.now c.args.scr.now c.put_drivers.new.scr c.args.a _ _ _ _ r c.record_field-p.ensures c.record_field-lsb.ensures c.record_field-n.ensures
    c.record_field-e.ensures c.put_drivers.ensures
