-- `check_memories::mark_memory` meets its contract. Assumes nothing.
use mathlib.Core.Path.{sym, ◌∙◌}
use native.Mathlib.Omega.{arith}
use Rattle.check_drivers.specs.Bits.{marks_one, marks_two}
use Rattle.check_memories.specs.Good.{good_rest}
use Rattle.check_memories.proofs.mark_memory.Goals as goal

pub mark_signal-requires : goal.mark_signal-requires
mark_signal-requires c = (c.requires.0.holds.room, rw c.record_field-p.ensures (good_rest _ _ c.requires.1).first_port_law.read_there)

pub returns-then-record_field-ne1 : goal.returns-then-record_field-ne1
returns-then-record_field-ne1 c =
    marks_one _ _ _ _ _ _ (λ z. c.if-record_field-ne1.true (c.record_field.ensures ∙ z)) (rw c.record_field-p.ensures at c.mark_signal.ensures) c.requires.0

pub mark_signal-requires-2 : goal.mark_signal-requires-2
mark_signal-requires-2 c = (
  omega (arith, c.requires.0.holds.room, c.mark_signal.ensures.long),
  rw c.record_field-q.ensures ((good_rest _ _ c.requires.1).second_port_law.some (sym c.record_field.ensures ∙ c.if-record_field-ne1.false)).port.read_there,
)

pub returns : goal.returns
returns c =
    marks_two _ _ _ _ _ _ _ (sym c.record_field.ensures ∙ c.if-record_field-ne1.false) (rw c.record_field-p.ensures at c.mark_signal.ensures) (rw c.record_field-q.ensures at c.mark_signal-2.ensures) c.requires.0
