-- `net_ports::add_input_port` meets its contract. Assumes nothing.
use mathlib.Core.Path.{refl}
use mathlib.Core.List.{[], ◌∷◌}
use native.Mathlib.Omega.{arith}
use Rattle.std.proofs.lemmas.Result.{err_from_is_err_and}
use Rattle.net_index.specs.Index.{is_gate, is_cell}
use Rattle.spec_model.specs.Builder.{add_input_port}
use Rattle.net_ports.proofs.Laws.{recorded, recorded_out}
use Rattle.net_ports.proofs.add_input_port.Goals as goal

pub add_nodes-requires : goal.add_nodes-requires
unfolding is_gate
add_nodes-requires c = (c.requires.0, refl, omega arith)

pub returns-in_err-first : goal.returns-in_err-first
unfolding add_input_port
returns-in_err-first c =
    let s = c.args in
    let p = err_from_is_err_and c.from_residual.result c.from_residual.ensures.1 in
    rw (p.1, p.2) (recorded_out _ s.n s.w (0 ∷ s.s ∷ s.w ∷ []) _ _ _ c.in_err-first.ensures)

pub returns-in_err-push_port : goal.returns-in_err-push_port
unfolding add_input_port is_cell
returns-in_err-push_port c =
    let s = c.args in
    let p = err_from_is_err_and c.from_residual-in_err-push_port.result c.from_residual-in_err-push_port.ensures.1 in
    rw (p.1, p.2) (recorded _ s.n s.w (0 ∷ s.s ∷ s.w ∷ []) _ _ _ _ _ c.in_ok-first.ensures refl c.in_err-push_port.ensures)

pub returns : goal.returns
unfolding add_input_port is_cell
returns c = let s = c.args in recorded _ s.n s.w (0 ∷ s.s ∷ s.w ∷ []) _ _ _ _ _ c.in_ok-first.ensures refl c.in_ok-push_port.ensures
