-- `check_expressions::parts_sum` meets its contract. Assumes nothing.
use mathlib.Core.Path.{sym, ap₂, ◌∙◌}
use Prim.Native.Nat.{◌+◌}
use native.Mathlib.Omega.{arith}
use Rattle.spec_tests.specs.Laws.{sum_none, sum_more}
use Rattle.check_expressions.specs.Kinds.{part_width}
use Rattle.check_expressions.proofs.parts_sum.Goals as goal

pub loop-i-init : goal.loop-i-init
loop-i-init c = (omega arith, sym (sum_none _), omega arith)

pub loop-i-preserved : goal.loop-i-preserved
unfolding part_width
loop-i-preserved c =
    let e = rw c.list_word.ensures at c.expr_width.ensures in
    (omega arith, ap₂ ◌+◌ c.loop-i.invariant.1 e ∙ sym (sum_more _ _), omega arith)
