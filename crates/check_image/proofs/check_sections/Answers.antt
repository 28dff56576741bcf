-- `check_image::check_sections` meets its contract. Each section that is passed is fine, the first that is not gives the answer. Assumes nothing.
use Rattle.std.proofs.Common.{sym, ◌∙◌}
use Rattle.check_image.specs.Checked.{drivers_then, then_fine, then_refused, refuse_yes, refuse_no, section_bad, section_fine}
use Rattle.check_image.proofs.check_sections.Goals as goal

pub returns-in-Some : goal.returns-in-Some
unfolding drivers_then
returns-in-Some c = then_refused _ 4 3 _ (section_bad _ 3 _ _ c.in-Some.ensures.0)

pub returns-in-Some-first_register : goal.returns-in-Some-first_register
unfolding drivers_then
returns-in-Some-first_register c = then_fine (section_fine _ 3 _ c.in_default.ensures.0) (then_refused _ 4 4 _ (section_bad _ 4 _ _ c.in-Some-first_register.ensures.0))

pub returns-in-Some-first_memory : goal.returns-in-Some-first_memory
unfolding drivers_then
returns-in-Some-first_memory c =
    then_fine (section_fine _ 3 _ c.in_default.ensures.0)
    (then_fine (section_fine _ 4 _ c.in_default-first_register.ensures.0)
    (then_refused _ 4 5 _ (section_bad _ 5 _ _ c.in-Some-first_memory.ensures)))

pub returns-then-scratch_short : goal.returns-then-scratch_short
unfolding drivers_then
returns-then-scratch_short c =
    then_fine (section_fine _ 3 _ c.in_default.ensures.0)
    (then_fine (section_fine _ 4 _ c.in_default-first_register.ensures.0)
    (then_fine (section_fine _ 5 _ c.in_default-first_memory.ensures)
    (sym (refuse_yes 5 (sym c.scratch_short.ensures ∙ c.if-scratch_short.true)))))

pub returns : goal.returns
unfolding drivers_then
returns c =
    then_fine (section_fine _ 3 _ c.in_default.ensures.0)
    (then_fine (section_fine _ 4 _ c.in_default-first_register.ensures.0)
    (then_fine (section_fine _ 5 _ c.in_default-first_memory.ensures)
    (sym (refuse_no 5 (sym c.scratch_short.ensures ∙ c.if-scratch_short.false)))))
