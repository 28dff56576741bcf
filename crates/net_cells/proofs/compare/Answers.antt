-- `net_cells::compare` meets its contract. Assumes nothing.
use mathlib.Core.Path.{◌≡◌, subst}
use Prim.Native.Nat.{ℕ, ◌-◌}
use native.Mathlib.Omega.{arith}
use lib.ListN.{length, take, get_or}
use Rattle.spec_model.specs.Words.{source, count}
use Rattle.spec_model.specs.Builder.{add_nodes, add_recorded}
use Rattle.net_view.specs.View.{netlist_of}
use Rattle.net_view.specs.Laws.{records_count}
use Rattle.net_cells.specs.Cells.{GivesRun}
use Rattle.net_cells.proofs.Laws.{made_new, made_shared}
use Rattle.net_cells.proofs.compare.Goals as goal

pub returns-in-Some : goal.returns-in-Some
returns-in-Some c =
    let s = c.args in
    made_shared _ s.n (take (length s.cell.now - 1) s.cell.now) s.net.now s.idx.now _ c.requires.0 c.requires.2.outs c.in-Some.ensures

pub returns-in-None : goal.returns-in-None
returns-in-None c =
    let s = c.args in
    let w = s.net.now in
    let o : get_or w 9 0 ≡ count 4 (netlist_of s.n w).records = records_count s.n w c.requires.0.built 4 (omega arith) in
    let key = take (length s.cell.now - 1) s.cell.now in
    made_new _ s.n 1 key _ _ (netlist_of s.n w) c.add_cell.result c.in-None.ensures
    (subst (λ (j : ℕ). GivesRun (add_recorded key (add_nodes (source 11 j) 0 1 (netlist_of s.n w))) s.n 1 c.add_cell.result c.add_cell.new.net c.add_cell.new.idx) o c.add_cell.ensures)
