-- `check_image::check` meets its contract. The checks that are passed are fine, the first that is not gives the answer. Assumes nothing.
use Rattle.std.proofs.Common.{sym, ◌∙◌}
use Rattle.spec_rules.specs.Checks as rule
use Rattle.check_header.specs.Header.{header_tells}
use Rattle.check_image.specs.Checked.{then_fine, then_refused, refuse_yes, refuse_no, header_bad, header_fine, in_order}
use Rattle.check_image.specs.Accepted.{counts}
use Rattle.check_image.proofs.check.Goals as goal

pub returns-then-bad_limits : goal.returns-then-bad_limits
unfolding rule.checked
returns-then-bad_limits c = then_refused _ 1 0 0 (refuse_yes 1 (sym c.bad_limits.ensures ∙ c.if-bad_limits.true))

pub returns-then-netlist_short : goal.returns-then-netlist_short
unfolding rule.checked
returns-then-netlist_short c =
    then_fine (refuse_no 1 (sym c.bad_limits.ensures ∙ c.if-bad_limits.false))
    (then_refused _ 2 0 0 (refuse_yes 2 (sym c.netlist_short.ensures ∙ c.if-netlist_short.true)))

pub returns-in-Some : goal.returns-in-Some
unfolding rule.checked
returns-in-Some c =
    then_fine (refuse_no 1 (sym c.bad_limits.ensures ∙ c.if-bad_limits.false))
    (then_fine (refuse_no 2 (sym c.netlist_short.ensures ∙ c.if-netlist_short.false))
    (then_refused _ 3 _ 0 (header_bad _ _ c.in-Some.ensures)))

pub check_records-requires : goal.check_records-requires
check_records-requires c = counts _ (header_tells _ (header_fine _ c.in_default.ensures))

pub returns : goal.returns
unfolding rule.checked
returns c =
    then_fine (refuse_no 1 (sym c.bad_limits.ensures ∙ c.if-bad_limits.false))
    (then_fine (refuse_no 2 (sym c.netlist_short.ensures ∙ c.if-netlist_short.false))
    (then_fine (header_fine _ c.in_default.ensures) (c.check_records.ensures ∙ in_order _ _ _)))
