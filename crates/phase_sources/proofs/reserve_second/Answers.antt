-- `phase_sources::reserve_second` meets its contract. Assumes nothing.
use native.Mathlib.Omega.{arith}
use mathlib.Core.Path.{refl, sym, ◌∙◌}
use Rattle.net_index.specs.Index.{is_gate}
use Rattle.phase_sources.proofs.Laws.{second_none, second_there, second_some}
use Rattle.phase_sources.proofs.reserve_second.Goals as goal

pub returns-then-record_field-eq0 : goal.returns-then-record_field-eq0
returns-then-record_field-eq0 c =
    second_none _ _ _ c.args.k c.args.b (sym c.record_field.ensures ∙ c.if-record_field-eq0.true) c.requires.0

pub reserve_bits-requires : goal.reserve_bits-requires
unfolding is_gate
reserve_bits-requires c =
    let a = c.args in
    let t = second_there a.image.now a.net.now a.scr.now a.k a.b (λ e. c.if-record_field-eq0.false (c.record_field.ensures ∙ e)) c.requires.0.accepted c.requires.1 in
    (c.requires.0, rw c.record_field-q.ensures t, refl, omega (arith, c.requires.2))

pub returns : goal.returns
returns c =
    second_some _ _ _ c.args.k c.args.b (λ e. c.if-record_field-eq0.false (c.record_field.ensures ∙ e)) _ _ _ _ c.record_field-q.ensures c.reserve_bits.ensures
