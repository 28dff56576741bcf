-- `stored_records::first_in_port` meets its contract. Assumes nothing.
use Rattle.std.proofs.Common.{sym, ◌∙◌, arith}
use Rattle.spec_tests.specs.Laws.{lt_yes, lt_no, inside}
use Rattle.stored_records.specs.Words.{port_head, kind_input, kind_output, port_signal, port_width, port_kind, port_found, port_clean}
use Rattle.stored_view.specs.Found.{one_hit, one_skip, below_hit}
use Rattle.stored_records.proofs.first_in_port.Goals as goal
use Rattle.stored_records.proofs.first_in_port.Goals.{else-kind-ne-INPUT-via-then-kind-ne-INPUT+else-kind-ne-OUTPUT, else-kind-ne-INPUT-via-else-kind-ne-INPUT}

pub returns-then-l-gt511 : goal.returns-then-l-gt511
returns-then-l-gt511 c = λ earlier m. one_hit _ _ 1 (omega arith) (port_signal _ _ _ ∙ lt_yes _ _ c.if-l-gt511.true)

pub returns-then-is_outside : goal.returns-then-is_outside
returns-then-is_outside c =
    λ earlier m.
    one_skip _ _ 1 (omega arith) (port_signal _ _ _ ∙ lt_no _ _ c.if-l-gt511.false)
    (one_hit _ _ 2 (omega arith) (port_width _ _ _ ∙ (sym c.is_outside.ensures ∙ c.if-is_outside.true)))

pub bounds-l-3 : goal.bounds-l-3
bounds-l-3 c =
    omega (arith, inside _ _ _ (sym c.is_outside.ensures ∙ c.if-is_outside.false))

pub returns-then-kind-ne-OUTPUT : goal.returns-then-kind-ne-OUTPUT
returns-then-kind-ne-OUTPUT c =
    λ earlier m.
    below_hit (omega (arith, inside _ _ _ (sym c.is_outside.ensures ∙ c.if-is_outside.false)))
    (port_head _ _ _ (lt_no _ _ c.if-l-gt511.false) (sym c.is_outside.ensures ∙ c.if-is_outside.false)
    (port_kind _ _ _ (sym c.is_outside.ensures ∙ c.if-is_outside.false) c.node_word-kind.ensures c.if-kind-ne-INPUT.true c.if-kind-ne-OUTPUT.true))

pub returns-in_err-i : goal.returns-in_err-i
returns-in_err-i c =
    λ earlier m.
    c.from_residual.ensures
    ∙ port_clean _ _ _ c.requires.2 c.node_word-kind.ensures (elim c.else-kind-ne-INPUT.branch [ else-kind-ne-INPUT-via-then-kind-ne-INPUT+else-kind-ne-OUTPUT w ↦ kind_output w.if-kind-ne-OUTPUT.false | else-kind-ne-INPUT-via-else-kind-ne-INPUT w ↦ kind_input w.if-kind-ne-INPUT.false ])
    (lt_no _ _ c.if-l-gt511.false) (sym c.is_outside.ensures ∙ c.if-is_outside.false) (c.in_err-i.ensures.0 earlier m)

pub returns : goal.returns
returns c =
    λ earlier m.
    port_found _ _ _ c.requires.2 c.node_word-kind.ensures (elim c.else-kind-ne-INPUT.branch [ else-kind-ne-INPUT-via-then-kind-ne-INPUT+else-kind-ne-OUTPUT w ↦ kind_output w.if-kind-ne-OUTPUT.false | else-kind-ne-INPUT-via-else-kind-ne-INPUT w ↦ kind_input w.if-kind-ne-INPUT.false ])
    (lt_no _ _ c.if-l-gt511.false) (sym c.is_outside.ensures ∙ c.if-is_outside.false) (c.in_ok-i.ensures.0 earlier m)
