-- `op_lower::lower_binary` meets its contract. Assumes nothing.
use Rattle.op_bits.proofs.Laws.{list_by}
use Rattle.op_lower.specs.Operators.{by_class}
use Rattle.op_lower.proofs.lower_binary.Goals as goal

pub returns : goal.returns
returns c =
    let lower-class = c.lower_class in
    let s = c.args in
    list_by _ _ _ _ _ _ _ (by_class s.op _ _ _) (rw c.from.ensures at lower-class.ensures)
