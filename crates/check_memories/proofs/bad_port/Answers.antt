-- `check_memories::bad_port` meets its contract. Assumes nothing.
use mathlib.Core.Path.{sym, ◌∙◌}
use Rattle.spec_tests.specs.Laws.{or_hit, or_skip}
use Rattle.check_memories.specs.Memory.{port_halves, read_there}
use Rattle.check_memories.proofs.bad_port.Goals as goal

pub returns-then-bad_read : goal.returns-then-bad_read
returns-then-bad_read c = or_hit _ (sym (rw c.record_field-p.ensures at c.bad_read.ensures) ∙ c.if-bad_read.true) ∙ port_halves _ _ _ _

pub returns-then-bad_write : goal.returns-then-bad_write
returns-then-bad_write c =
    or_skip (sym (rw c.record_field-p.ensures at c.bad_read.ensures) ∙ c.if-bad_read.false)
    (or_hit _ (sym c.bad_write.ensures ∙ c.if-bad_write.true)) ∙ port_halves _ _ _ _

pub is_driven-requires : goal.is_driven-requires
is_driven-requires c =
    (c.requires.0.holds.room, read_there _ _ _ _ _ (sym c.bad_read.ensures ∙ c.if-bad_read.false))

pub returns : goal.returns
returns c =
    or_skip (sym (rw c.record_field-p.ensures at c.bad_read.ensures) ∙ c.if-bad_read.false)
    (or_skip (sym c.bad_write.ensures ∙ c.if-bad_write.false) (rw c.record_field-p.ensures at (c.is_driven.ensures _ _ c.requires.0))) ∙ port_halves _ _ _ _
