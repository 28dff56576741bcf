-- `walk_plan::operands` meets its contract. Assumes nothing.
use mathlib.Core.Path.{◌∙◌, ap}
use Rattle.image_records.specs.OpClass.{adds_of}
use Rattle.walk_plan.specs.Kinds.{operands_plain, operands_add}
use Rattle.walk_plan.proofs.operands.Goals as goal

pub returns-in-Adds : goal.returns-in-Adds
returns-in-Adds c =
    let op-class = c.op_class in
    let args = c.args in
    c.add_with_carry.ensures ∙ operands_add args.image.now args.op _ args.lhs args.rhs op-class.ensures (ap adds_of c.in-Adds.is)

pub returns-in-Ands : goal.returns-in-Ands
returns-in-Ands c =
    let op-class = c.op_class in
    let args = c.args in
    c.plain.ensures ∙ operands_plain args.image.now args.op _ args.lhs args.rhs op-class.ensures (ap adds_of c.in-Ands.is)

pub returns-in-Ors : goal.returns-in-Ors
returns-in-Ors c =
    let op-class = c.op_class in
    let args = c.args in
    c.plain-in-Ors.ensures ∙ operands_plain args.image.now args.op _ args.lhs args.rhs op-class.ensures (ap adds_of c.in-Ors.is)

pub returns-in-Subtracts : goal.returns-in-Subtracts
returns-in-Subtracts c =
    let op-class = c.op_class in
    let args = c.args in
    c.plain-in-Subtracts.ensures ∙ operands_plain args.image.now args.op _ args.lhs args.rhs op-class.ensures (ap adds_of c.in-Subtracts.is)

pub returns-in-Other : goal.returns-in-Other
returns-in-Other c =
    let op-class = c.op_class in
    let args = c.args in
    c.plain-in-Other.ensures ∙ operands_plain args.image.now args.op _ args.lhs args.rhs op-class.ensures (ap adds_of c.in-Other.is)
