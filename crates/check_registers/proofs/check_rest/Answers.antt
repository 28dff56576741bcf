-- `check_registers::check_rest` meets its contract. Assumes nothing.
use mathlib.Core.Bool.{true≢false}
use mathlib.Core.Path.{sym, ◌∙◌}
use Rattle.check_drivers.specs.Bits.{marks_register}
use Rattle.check_registers.specs.Register.{rest_of}
use Rattle.check_registers.specs.Good.{good_of}
use Rattle.check_registers.proofs.check_rest.Goals as goal

pub returns-then-bad_rest_of : goal.returns-then-bad_rest_of
returns-then-bad_rest_of c = (rest_of _ _ _ _ c.record_field-p.ensures (sym c.if-bad_rest_of.true ∙ c.bad_rest_of.ensures), λ e. absurd (true≢false e))

pub mark_signal-requires : goal.mark_signal-requires
mark_signal-requires c =
    (c.requires.holds.room, (good_of _ _ _ (sym c.bad_rest_of.ensures ∙ c.if-bad_rest_of.false)).there)

pub returns : goal.returns
returns c = (
  rest_of _ _ _ _ c.record_field-p.ensures (sym c.if-bad_rest_of.false ∙ c.bad_rest_of.ensures),
  λ e. marks_register _ _ _ _ _ (rw c.record_field-p.ensures at c.mark_signal.ensures) c.requires,
)
