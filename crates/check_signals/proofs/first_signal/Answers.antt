-- `check_signals::first_signal` meets its contract. Assumes nothing.
use Rattle.check_signals.specs.Signals.{first_signal}
use Rattle.spec_rules.specs.Image.{count_at_of}
use Rattle.check_signals.proofs.first_signal.Goals as goal

pub returns : goal.returns
returns c = cc (first_signal c.args.image.now (count_at_of c.args.image.now 0))
