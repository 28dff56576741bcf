-- `check_drivers::Signals::is_assigned` meets its contract. Assumes nothing.
use Rattle.check_drivers.specs.Bits.{answers_assigned}
use Rattle.check_drivers.proofs.Signals.is_assigned.Goals as goal

pub returns : goal.returns
returns c = λ a m. answers_assigned _ a _ _ _ _ (c.is_marked.ensures a 0 0 m)
