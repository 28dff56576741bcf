-- `net_cell_index::begins_with` meets its contract. Assumes nothing.
use mathlib.Core.Path.{◌∙◌}
use lib.ListN.{length-drop}
use lib.Seq.{take-length}
use Rattle.net_cell_index.proofs.Laws.{begins_law}
use Rattle.net_cell_index.proofs.begins_with.Goals as goal

pub returns : goal.returns
returns c = simp (← length-drop, take-length) at c.starts_with.ensures.value ∙ begins_law _ _
