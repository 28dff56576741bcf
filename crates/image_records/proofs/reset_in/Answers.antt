-- `image_records::reset_in` meets its contract. Assumes nothing.
use mathlib.Core.Path.{refl, ◌∙◌}
use native.Mathlib.Omega.{arith}
use Rattle.spec_tests.specs.Laws.{pick_hit, pick_skip, eq_yes, eq_no}
use Rattle.spec_rules.specs.Image.{optional}
use Rattle.image_records.specs.Others.{reset_means, reset_in, reset_way}
use Rattle.image_records.proofs.reset_in.Goals as goal

pub returns-then-field : goal.returns-then-field
unfolding reset_means reset_in optional
returns-then-field c = pick_hit _ (eq_yes _ _ (omega arith)) refl

pub returns : goal.returns
unfolding reset_in optional
returns c = pick_skip _ (eq_no _ _ (λ e. c.if-field.false (c.field.ensures ∙ e))) (reset_way _ _ _ _ _ c.control_in-control.ensures c.field-mode.ensures c.field-value.ensures)
