-- `stored_marks::ports_fit` meets its contract. Assumes nothing.
use mathlib.Core.Bool.{not}
use mathlib.Core.Path.{sym, ap, ◌∙◌}
use native.Mathlib.Omega.{arith}
use Rattle.spec_tests.specs.Laws.{lt_yes, lt_no}
use Rattle.spec_rules.specs.NetlistImage.{port_length}
use Rattle.stored_marks.specs.Fit.{ports_passed, ports_ended}
use Rattle.stored_marks.proofs.ports_fit.Goals as goal

pub returns-then-l-lt6 : goal.returns-then-l-lt6
returns-then-l-lt6 c = ap not (sym (lt_yes _ _ (omega arith)))

pub returns-then-l-at : goal.returns-then-l-at
returns-then-l-at c = ap not (sym (lt_yes _ _ (omega (arith, ports_passed c.args.l.now _ _ _ _ _ (omega arith) (c.port_length-at.ensures.0 ∙ ap port_length c.part.ensures) c.loop-port.invariant.1))))

pub loop-port-preserved : goal.loop-port-preserved
loop-port-preserved c = (omega arith, ports_passed c.args.l.now _ _ _ _ _ (omega arith) (c.port_length-at.ensures.0 ∙ ap port_length c.part.ensures) c.loop-port.invariant.1)

pub returns : goal.returns
returns c = ap not (sym (lt_no _ _ (omega (arith, ports_ended c.args.l.now _ _ _ _ (omega arith) c.loop-port.invariant.1))))
