-- `image_records::second_in` meets its contract. Assumes nothing.
use mathlib.Core.Path.{refl, sym, ap, ◌∙◌}
use mathlib.Core.Option.{some}
use Rattle.spec_tests.specs.Laws.{pick_hit, pick_skip, eq_yes, eq_no}
use Rattle.image_records.specs.Others.{second_means, second_in}
use Rattle.image_records.proofs.second_in.Goals as goal

pub returns-then-field-eq0 : goal.returns-then-field-eq0
unfolding second_means second_in
returns-then-field-eq0 c = pick_hit _ (eq_yes _ _ (sym c.field.ensures ∙ c.if-field-eq0.true)) refl

pub returns : goal.returns
unfolding second_means second_in
returns c = pick_skip _ (eq_no _ _ (λ e. c.if-field-eq0.false (c.field.ensures ∙ e))) (ap some c.port_in.ensures)
