-- `expr_fusion::carry_part` meets its contract. Assumes nothing.
use mathlib.Core.Path.{sym, ◌∙◌}
use native.Mathlib.Omega.{arith}
use Prim.Native.Nat.{◌-◌}
use Rattle.expr_fusion.specs.Fusion.{carry_none, carry_begins, carry_passes, carry_stops, carry_last, carry_wide}
use Rattle.expr_fusion.proofs.carry_part.Goals as goal

pub returns-then-count-eq0 : goal.returns-then-count-eq0
returns-then-count-eq0 c = carry_none c.args.image.now c.args.start c.args.count c.if-count-eq0.true

pub loop-i-init : goal.loop-i-init
loop-i-init c = (omega arith, carry_begins c.args.image.now c.args.start c.args.count)

pub returns-then-not-is_zero_expression : goal.returns-then-not-is_zero_expression
returns-then-not-is_zero_expression c = carry_stops c.args.image.now c.args.start c.args.count c.loop-i.i (omega arith) c.loop-i.invariant.1 (rw (← c.list_word.ensures) (sym c.is_zero_expression.ensures ∙ c.if-not-is_zero_expression.true))

pub loop-i-preserved : goal.loop-i-preserved
loop-i-preserved c = (omega arith, carry_passes c.args.image.now c.args.start c.args.count c.loop-i.i (omega arith) c.loop-i.invariant.1 (rw (← c.list_word.ensures) (sym c.is_zero_expression.ensures ∙ c.if-not-is_zero_expression.false)))

pub returns-then-expr_width-eq1 : goal.returns-then-expr_width-eq1
returns-then-expr_width-eq1 c = carry_last c.args.image.now c.args.start c.args.count c.requires c.loop-i.i (c.args.count - 1) c.list_word-part.result (omega arith) (omega arith) c.loop-i.invariant.1 c.list_word-part.ensures (sym c.expr_width.ensures ∙ c.if-expr_width-eq1.true)

pub returns : goal.returns
returns c = carry_wide c.args.image.now c.args.start c.args.count c.requires c.loop-i.i (c.args.count - 1) c.list_word-part.result (omega arith) (omega arith) c.loop-i.invariant.1 c.list_word-part.ensures (λ w. c.if-expr_width-eq1.false (c.expr_width.ensures ∙ w))
