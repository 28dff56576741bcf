-- `check_expressions::bad_expr` meets its contract. Assumes nothing.
use Rattle.std.proofs.Common.{sym, ◌∙◌, arith}
use Rattle.spec_tests.specs.Laws.{inside, sum_more}
use Rattle.spec_rules.specs.Image.{expr_width}
use Rattle.spec_rules.specs.Checks.{bad_expr}
use Rattle.spec_chains.proofs.Tests.{chained}
use Rattle.check_expressions.specs.Kinds.{bad_fields}
use Rattle.check_expressions.proofs.bad_expr.Goals as goal

pub overflow_add-sum : goal.overflow_add-sum
overflow_add-sum c = omega (arith, inside _ _ _ (sym c.is_outside.ensures ∙ c.if-is_outside.false))

pub returns-then-is_outside : goal.returns-then-is_outside
unfolding bad_expr bad_fields
returns-then-is_outside c = grind (arith, chained)

pub returns-then-sum-w-gt32768 : goal.returns-then-sum-w-gt32768
unfolding bad_expr bad_fields
returns-then-sum-w-gt32768 c = grind (arith, chained, sum_more (expr_width c.args.image.now) c.args.r)

pub bad_fields-requires : goal.bad_fields-requires
bad_fields-requires c = omega (arith, inside _ _ _ (sym c.is_outside.ensures ∙ c.if-is_outside.false))

pub returns-else-sum-w-gt32768 : goal.returns-else-sum-w-gt32768
unfolding bad_expr bad_fields
returns-else-sum-w-gt32768 c = grind (arith, chained, sum_more (expr_width c.args.image.now) c.args.r)
