-- `check_registers::bad_rest_of` meets its contract. Assumes nothing.
use Rattle.std.proofs.Common.{sym, ◌∙◌}
use Rattle.check_references.specs.Good.{is_signal}
use Rattle.check_registers.proofs.bad_rest_of.Goals as goal

pub is_driven-requires : goal.is_driven-requires
is_driven-requires c = (c.requires.holds.room, is_signal _ _ (sym c.no_signal.ensures ∙ c.if-no_signal.false))
