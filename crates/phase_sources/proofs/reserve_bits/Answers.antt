-- `phase_sources::reserve_bits` meets its contract. Assumes nothing.
use Rattle.walk_view.proofs.Errors.{err_is}
use Rattle.phase_sources.proofs.Laws.{reserved, no_room, bits_as}
use Rattle.phase_sources.proofs.reserve_bits.Goals as goal

pub returns-in_err-first : goal.returns-in_err-first
returns-in_err-first c =
    let a = c.args in
    rw (err_is _ _ c.from_residual.ensures) (bits_as a.kind a.owner a.b a.p _ _ _ _ _ _ _ c.requires.1 c.signal_width-n.ensures
    (no_room _ a.p _ _ _ _ _ c.requires.0 c.add_nodes.auto.net c.in_err-first.field-0.0 c.in_err-first.ensures))

pub returns : goal.returns
returns c =
    let a = c.args in
    bits_as a.kind a.owner a.b a.p _ _ _ _ _ _ _ c.requires.1 c.signal_width-n.ensures
    (reserved _ a.p _ _ _ _ _ c.requires.0 c.add_nodes.auto.net _ _ c.in_ok-first.ensures c.keep_run.ensures c.keep_run.auto.scr)
