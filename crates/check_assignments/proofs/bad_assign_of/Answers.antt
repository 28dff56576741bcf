-- `check_assignments::bad_assign_of` meets its contract. Assumes nothing.
use Rattle.std.proofs.Common.{sym, ◌∙◌}
use Rattle.spec_tests.specs.Laws.{no_lt, inside}
use Rattle.check_references.specs.Good.{is_signal}
use Rattle.check_assignments.proofs.bad_assign_of.Goals as goal

pub is_assigned-requires : goal.is_assigned-requires
is_assigned-requires c = (
  c.requires,
  is_signal _ _ (sym c.no_signal.ensures ∙ c.if-no_signal.false),
  (inside _ _ _ (sym c.is_outside.ensures ∙ c.if-is_outside.false)).0,
  no_lt _ _ (sym (rw c.signal_width.ensures at c.below_sum.ensures) ∙ c.if-below_sum.false),
)
