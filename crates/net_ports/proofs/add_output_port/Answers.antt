-- `net_ports::add_output_port` meets its contract. Assumes nothing.
use mathlib.Core.Path.{refl}
use mathlib.Core.List.{[], ◌∷◌}
use lib.ListN.{length}
use Rattle.std.proofs.lemmas.Result.{err_from_is_err_and}
use Rattle.net_index.specs.Index.{is_cell}
use Rattle.net_view.specs.View.{netlist_of}
use Rattle.net_ports.proofs.Laws.{recorded, recorded_out, output_port}
use Rattle.net_ports.proofs.add_output_port.Goals as goal

pub returns-in_err-first : goal.returns-in_err-first
returns-in_err-first c =
    let s = c.args in
    let p = err_from_is_err_and c.from_residual.result c.from_residual.ensures.1 in
    rw (output_port s.s s.xs.now (netlist_of s.n s.net.now), p.1, p.2)
    (recorded_out _ s.n (length s.xs.now) (0 ∷ s.s ∷ length s.xs.now ∷ []) _ _ _ c.in_err-first.ensures)

pub returns-in_err-push_port : goal.returns-in_err-push_port
unfolding is_cell
returns-in_err-push_port c =
    let s = c.args in
    let p = err_from_is_err_and c.from_residual-in_err-push_port.result c.from_residual-in_err-push_port.ensures.1 in
    rw (output_port s.s s.xs.now (netlist_of s.n s.net.now), p.1, p.2)
    (recorded _ s.n (length s.xs.now) (0 ∷ s.s ∷ length s.xs.now ∷ []) _ _ _ _ _ c.in_ok-first.ensures refl c.in_err-push_port.ensures)

pub returns : goal.returns
unfolding is_cell
returns c =
    let s = c.args in
    rw (output_port s.s s.xs.now (netlist_of s.n s.net.now))
    (recorded _ s.n (length s.xs.now) (0 ∷ s.s ∷ length s.xs.now ∷ []) _ _ _ _ _ c.in_ok-first.ensures refl c.in_ok-push_port.ensures)
