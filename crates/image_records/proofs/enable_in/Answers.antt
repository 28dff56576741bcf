-- `image_records::enable_in` meets its contract. Assumes nothing.
use mathlib.Core.Path.{refl, ap, ◌∙◌}
use native.Mathlib.Omega.{arith}
use Rattle.spec_tests.specs.Laws.{pick_hit, pick_skip, eq_yes, eq_no}
use Rattle.spec_rules.specs.Image.{optional}
use Rattle.image_records.specs.Others.{enable_means, enable_in}
use mathlib.Core.Option.{some}
use Rattle.image_records.proofs.enable_in.Goals as goal

pub returns-then-field : goal.returns-then-field
unfolding enable_means enable_in optional
returns-then-field c = pick_hit _ (eq_yes _ _ (omega arith)) refl

pub returns : goal.returns
unfolding enable_means enable_in optional
returns c = pick_skip _ (eq_no _ _ (λ e. c.if-field.false (c.field.ensures ∙ e))) (ap some c.control_in.ensures)
