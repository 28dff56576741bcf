-- `check_expressions::first_expr` meets its contract. Assumes nothing.
use mathlib.Core.Path.{sym, ap, ap₂, ◌∙◌}
use Prim.Native.Nat.{◌+◌}
use native.Mathlib.Omega.{arith}
use Rattle.spec_tests.specs.Options.{first_of, first_some, first_none}
use Rattle.spec_tests.specs.Laws.{begins, passed, found, ended, sum_none, sum_more}
use Rattle.spec_rules.specs.Image.{expr_width}
use Rattle.spec_rules.specs.Checks.{bad_expr}
use Rattle.check_expressions.specs.Good.{good_expr}
use Rattle.check_expressions.proofs.first_expr.Goals as goal

pub loop-r-init : goal.loop-r-init
loop-r-init c = (omega arith, omega arith, sym (sum_none _), begins _ _)

pub returns-then-bad_expr : goal.returns-then-bad_expr
returns-then-bad_expr c = sym (first_some _ _ _ (omega arith) (found _ _ _ (omega arith) c.loop-r.invariant.3 (sym c.bad_expr.ensures ∙ c.if-bad_expr.true))) ∙ ap (first_of (bad_expr _)) c.count-n.ensures

pub overflow_add-sum : goal.overflow_add-sum
overflow_add-sum c =
    let ok = good_expr _ _ (sym c.bad_expr.ensures ∙ c.if-bad_expr.false) in
    omega (arith, ok.sum, sum_more (expr_width c.args.image.now) c.loop-r.r)

pub loop-r-preserved : goal.loop-r-preserved
loop-r-preserved c =
    let ok = sym c.bad_expr.ensures ∙ c.if-bad_expr.false in
    let e = ap₂ ◌+◌ c.loop-r.invariant.2 c.expr_width-sum.ensures ∙ sym (sum_more _ _) in
    (omega arith, omega (arith, e, (good_expr _ _ ok).sum), e, c.loop-r.invariant.3 ∙ passed _ _ _ (omega arith) ok)

pub returns : goal.returns
returns c = sym (first_none _ _ (ended _ _ _ (omega arith) (omega arith) c.loop-r.invariant.3)) ∙ ap (first_of (bad_expr _)) c.count-n.ensures
