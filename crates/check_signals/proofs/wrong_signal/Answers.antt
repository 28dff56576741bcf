-- `check_signals::wrong_signal` meets its contract. Assumes nothing.
use Rattle.std.proofs.Common.{sym, ◌∙◌, arith}
use Rattle.spec_tests.specs.Laws.{inside, sum_more}
use Rattle.spec_rules.specs.Image.{signal_width}
use Rattle.spec_chains.proofs.Tests.{chained}
use Rattle.check_signals.specs.Signals.{wrong_signal}
use Rattle.check_signals.proofs.wrong_signal.Goals as goal

pub overflow_add-result : goal.overflow_add-result
overflow_add-result c = omega (arith, inside _ _ _ (sym c.is_outside.ensures ∙ c.if-is_outside.false))

pub returns-else-record_field-gt2 : goal.returns-else-record_field-gt2
unfolding wrong_signal
returns-else-record_field-gt2 c = grind (arith, chained, sum_more (signal_width c.args.image.now) c.args.r)
