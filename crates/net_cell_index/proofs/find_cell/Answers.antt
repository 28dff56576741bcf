-- `net_cell_index::find_cell` meets its contract. Assumes nothing.
use mathlib.Core.Path.{sym, ◌∙◌}
use Prim.Native.Nat.{◌*◌}
use native.Mathlib.Omega.{arith}
use lib.ListN.{drop}
use lib.Seq.{get_or-drop}
use Rattle.net_view.specs.View.{netlist_of}
use Rattle.net_index.specs.CellSearch.{cell_start, here, here_found, here_less, here_turn}
use Rattle.net_cell_index.proofs.find_cell.Goals as goal

pub loop-p-init : goal.loop-p-init
loop-p-init c =
    let s = c.args in
    let w = s.net.now in
    rw (← get_or-drop (2 * s.n) s.idx.now s.h 0) (cell_start s.n _ s.h s.key.now (netlist_of s.n w).records (drop (2 * s.n) s.idx.now) c.requires.1 c.requires.2 c.requires.3 c.requires.0.cells)

pub begins_with-requires : goal.begins_with-requires
begins_with-requires c =
    let s = c.args in
    omega (arith, (here s.n s.h s.key.now s.net.now s.idx.now c.loop-p.p c.requires.0 c.requires.1 c.requires.2 c.loop-p.invariant c.loop-p-test.true).width)

pub returns-then-begins_with : goal.returns-then-begins_with
returns-then-begins_with c =
    let s = c.args in
    here_found s.n s.h s.key.now s.net.now s.idx.now c.loop-p.p c.requires.0 c.requires.1 c.requires.2 c.loop-p.invariant c.loop-p-test.true
    (sym c.begins_with.ensures ∙ c.if-begins_with.true)

pub next_cell-p-requires : goal.next_cell-p-requires
next_cell-p-requires c =
    let s = c.args in
    let x = here s.n s.h s.key.now s.net.now s.idx.now c.loop-p.p c.requires.0 c.requires.1 c.requires.2 c.loop-p.invariant c.loop-p-test.true in
    (x.width, x.key, x.first, c.requires.0.sized)

pub loop-p-smaller : goal.loop-p-smaller
loop-p-smaller c =
    let s = c.args in
    here_less s.n s.h s.key.now s.net.now s.idx.now c.loop-p.p c.requires.0 c.requires.1 c.requires.2 c.loop-p.invariant c.loop-p-test.true c.next_cell-p.result c.next_cell-p.ensures

pub loop-p-preserved : goal.loop-p-preserved
loop-p-preserved c =
    let s = c.args in
    here_turn s.n s.h s.key.now s.net.now s.idx.now c.loop-p.p c.requires.0 c.requires.1 c.requires.2 c.loop-p.invariant c.loop-p-test.true c.next_cell-p.result
    (sym c.begins_with.ensures ∙ c.if-begins_with.false) c.next_cell-p.ensures
