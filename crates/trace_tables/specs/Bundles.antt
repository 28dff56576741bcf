-- The tables that are made once, as a struct of the code. Assumes nothing.
use Rattle.std.specs.Prelude.{ℕ, ◌≤◌, ◌≡◌, List, length}
use Rattle.trace_line.specs.declared.Tables.{Tables}
use Rattle.trace_line.specs.Bundles.{PreparedBy}

-- the tables of this netlist: no more nets of ports than an image for the trace program has list words
pub record ReadyAs (ws : List ℕ) (t : Tables) : Type 0 where
  pub net : t.net.now ≡ ws
  pub prepared : PreparedBy t
  pub inputs_few : length t.inputs.now ≤ 2048
  pub outputs_few : length t.outputs.now ≤ 2048
