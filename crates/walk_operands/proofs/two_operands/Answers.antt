-- `walk_operands::two_operands` meets its contract. Assumes nothing.
use Rattle.expr_laws.specs.Exprs.{width_least}
use Rattle.walk_operands.proofs.WholeWays.{add_in, add_made_law, no_add, not_adds, plain_sides, plain_width, plain_made}
use borrow.Enum.Refused.{opened}
use Rattle.walk_operands.proofs.two_operands.Goals as goal

pub add_operands-requires : goal.add_operands-requires
add_operands-requires c = (add_in _ _ _ _ _ _ c.requires.0 _ c.op_class.ensures c.in-Adds.is, c.requires.1, c.requires.4)

pub binary_operands-requires : goal.binary_operands-requires
binary_operands-requires c =
    let h = c.requires.0 in
    let t = h.tabled in
    let no = no_add _ c.op_class.result c.op_class.ensures (not_adds c.op_class.result (opened c.in_default.in_default-own.keys2)) in
    let v = c.expr_width-v.ensures in
    (t.laid, (plain_sides _ _ _ _ _ _ h no).0, (plain_sides _ _ _ _ _ _ h no).1, rw v (plain_width _ _ _ _ _ _ h no), rw v (width_least _ t.readable _ t.inside), rw v c.requires.1, c.requires.2, c.requires.3, c.requires.4)

pub returns-in-Adds : goal.returns-in-Adds
returns-in-Adds c = add_made_law _ _ _ _ _ _ c.requires.0 _ _ _ _ c.op_class.ensures c.in-Adds.is c.add_operands.ensures

pub returns-in_default : goal.returns-in_default
returns-in_default c =
    let h = c.requires.0 in
    let no = no_add _ c.op_class.result c.op_class.ensures (not_adds c.op_class.result (opened c.in_default.in_default-own.keys2)) in
    plain_made _ _ _ _ _ _ h no _ _ _ _ c.expr_width-v.ensures c.binary_operands.ensures
