-- `expr_fusion::is_zero_expression` meet their contracts. Assumes nothing.
use mathlib.Core.Path.{sym, ◌∙◌}
use native.Mathlib.Omega.{arith}
use Rattle.expr_fusion.specs.Fusion.{zero_begins, zero_passes, zero_stops, zero_ends}
use Rattle.expr_fusion.proofs.+is_zero_expression.Goals as goal

pub zero_test-requires : goal.zero_test-requires
zero_test-requires t c = c.requires

pub loop-i-init : goal.loop-i-init
loop-i-init t c = (omega arith, zero_begins c.args.image.now c.args.e c.in-Parts.start c.in-Parts.count (rw c.in-Parts.is at c.zero_test.ensures))

pub overflow_add-start : goal.overflow_add-start
overflow_add-start t c = omega (arith, (rw c.in-Parts.is at c.zero_test.ensures).falls.0)

pub is_zero_expression-requires : goal.is_zero_expression-requires
is_zero_expression-requires t c =
    let z = (rw c.in-Parts.is at c.zero_test.ensures).falls.1 c.loop-i.i (omega arith) in
    (omega (arith, z, c.list_word.ensures, c.decreases), record { readable = c.requires.readable; inside = omega (arith, z, c.list_word.ensures, c.requires.inside) })

pub returns-then-not-is_zero_expression : goal.returns-then-not-is_zero_expression
returns-then-not-is_zero_expression t c = zero_stops c.args.image.now c.args.e c.in-Parts.start c.in-Parts.count c.loop-i.i (omega arith) c.loop-i.invariant.1 (rw (← c.list_word.ensures) (sym c.is_zero_expression.ensures ∙ c.if-not-is_zero_expression.true))

pub loop-i-preserved : goal.loop-i-preserved
loop-i-preserved t c = (omega arith, zero_passes c.args.image.now c.args.e c.in-Parts.start c.in-Parts.count c.loop-i.i (omega arith) c.loop-i.invariant.1 (rw (← c.list_word.ensures) (sym c.is_zero_expression.ensures ∙ c.if-not-is_zero_expression.false)))

pub returns-in-Zero : goal.returns-in-Zero
returns-in-Zero t c = rw c.in-Zero.is at (sym c.zero_test.ensures.same)

pub returns-in-NotZero : goal.returns-in-NotZero
returns-in-NotZero t c = rw c.in-NotZero.is at (sym c.zero_test.ensures.same)

pub returns-after-loop-i : goal.returns-after-loop-i
returns-after-loop-i t c = zero_ends c.args.image.now c.args.e c.in-Parts.start c.in-Parts.count c.loop-i.i (omega arith) c.loop-i.invariant.1
