-- What a search for a cell answers: where its outputs stand; a cell more in the index. Assumes nothing.
use Rattle.std.specs.Prelude.{◌≡◌, Option, Some, None, List, ℕ, ◌*◌, ◌<◌, get_or, drop}
use Rattle.std.proofs.Math.Option.{none}
use Rattle.spec_model.specs.WordCells.{find_cell}
use Rattle.net_view.specs.View.{netlist_of}
use Rattle.net_index.specs.CellLaws.{cell_linked}
use Rattle.net_index.specs.CellSearch.{Outputs}

abbrev pub Finds : ℕ → List ℕ → List ℕ → Option ℕ → Type 0
Finds n key w (Some p) = Outputs n key w p
Finds n key w None = find_cell key (netlist_of n w).records ≡ none

-- the index with the cell at list position p, of first output o, as the newest of bucket h; the gates' part as it was
pub record Links (n o h p : ℕ) (idx idx' : List ℕ) : Type 0 where
  pub cells : drop (2 * n) idx' ≡ cell_linked n o h p (drop (2 * n) idx)
  pub gates : (j : ℕ) → j < 2 * n → get_or idx' j 0 ≡ get_or idx j 0
