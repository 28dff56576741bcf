-- `check_signals::first_wrong` meets its contract. The loop's invariant: no record below r breaks a rule, and the sum is that of the widths below r. Assumes nothing.
use mathlib.Core.Path.{sym, ◌∙◌}
use native.Mathlib.Omega.{arith}
use Rattle.spec_tests.specs.Laws.{begins, passed, found, ended, sum_none, sum_more}
use Rattle.spec_tests.specs.Options.{first_some, first_none}
use Rattle.spec_rules.specs.Image.{signal_width}
use Rattle.check_signals.specs.Signals.{sum_good}
use Rattle.check_signals.proofs.first_wrong.Goals as goal

pub loop-r-init : goal.loop-r-init
loop-r-init c = (omega arith, begins _ _, sym (sum_none _), omega arith)

pub returns-then-wrong_signal : goal.returns-then-wrong_signal
returns-then-wrong_signal c = sym (first_some _ _ _ (omega arith) (found _ _ _ (omega arith) c.loop-r.invariant.1 (sym c.wrong_signal.ensures ∙ c.if-wrong_signal.true)))

pub overflow_add-sum : goal.overflow_add-sum
overflow_add-sum c =
    let s = c.args.image.now in
    let g = sum_good s c.loop-r.r (sym c.wrong_signal.ensures ∙ c.if-wrong_signal.false) in
    let m = sum_more (signal_width s) c.loop-r.r in
    omega arith

pub loop-r-preserved : goal.loop-r-preserved
loop-r-preserved c =
    let s = c.args.image.now in
    let g = sum_good s c.loop-r.r (sym c.wrong_signal.ensures ∙ c.if-wrong_signal.false) in
    let m = sum_more (signal_width s) c.loop-r.r in
    (omega arith, c.loop-r.invariant.1 ∙ passed _ _ _ (omega arith) (sym c.wrong_signal.ensures ∙ c.if-wrong_signal.false), omega arith, omega arith)

pub returns : goal.returns
returns c = sym (first_none _ _ (ended _ _ _ (omega arith) (omega arith) c.loop-r.invariant.1))
