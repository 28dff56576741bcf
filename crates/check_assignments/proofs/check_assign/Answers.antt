-- `check_assignments::check_assign` meets its contract. Assumes nothing.
use mathlib.Core.Bool.{true≢false}
use mathlib.Core.Path.{sym, ◌∙◌}
use Rattle.check_assignments.specs.Assign.{bad_of}
use Rattle.check_assignments.specs.Good.{good_of, assign_marked}
use Rattle.check_assignments.proofs.check_assign.Goals as goal

pub returns-then-bad_assign_of : goal.returns-then-bad_assign_of
returns-then-bad_assign_of c = (
  bad_of _ _ _ _ _ _ _ c.record_field-p.ensures c.record_field-at.ensures c.record_field-w.ensures c.record_field-e.ensures (sym c.if-bad_assign_of.true ∙ c.bad_assign_of.ensures _ c.requires),
  λ e. absurd (true≢false e),
)

pub mark_bits-requires : goal.mark_bits-requires
mark_bits-requires c =
    let g = good_of _ _ _ _ _ _ (sym (c.bad_assign_of.ensures _ c.requires) ∙ c.if-bad_assign_of.false) in
    (c.requires.holds.room, g.there, g.room)

pub returns : goal.returns
returns c =
    let g = good_of _ _ _ _ _ _ (sym (c.bad_assign_of.ensures _ c.requires) ∙ c.if-bad_assign_of.false) in (
      bad_of _ _ _ _ _ _ _ c.record_field-p.ensures c.record_field-at.ensures c.record_field-w.ensures c.record_field-e.ensures (sym c.if-bad_assign_of.false ∙ c.bad_assign_of.ensures _ c.requires),
      λ e. assign_marked _ _ _ _ _ _ _ _ c.record_field-p.ensures c.record_field-at.ensures c.record_field-w.ensures g c.mark_bits.ensures c.requires,
    )
