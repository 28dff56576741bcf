-- `net_cell_index::find_cell` meets its contract. Assumes nothing.
use mathlib.Core.List.{reverse}
use Rattle.net_view.specs.View.{netlist_of}
use Rattle.net_index.specs.CellSearch.{CellAt}
use Rattle.net_cell_index.proofs.find_cell.Given as goal

abbrev pub invariant-loop-p : goal.invariant-loop-p
invariant-loop-p l = CellAt l.n l.h l.key (reverse (netlist_of l.n l.net).records) l.p

abbrev pub decreases-loop-p : goal.decreases-loop-p
decreases-loop-p l = l.p
