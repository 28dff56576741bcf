-- What adding a run of nodes answers: their nets are numbered on from the first. Assumes nothing.
use Rattle.std.specs.Prelude.{◌≡◌, List, ℕ, Result, Ok, Err, ◌+◌, ◌≤◌, get_or}
use Rattle.spec_model.specs.Words.{absent, Node, node, Netlist}
use Rattle.spec_model.specs.Builder.{refused, done, Made, from}
use Rattle.net_view.specs.View.{netlist_of, Built}
use Rattle.net_index.specs.Index.{Held}
use Rattle.net_nodes.specs.declared.Full.{Full}
use Rattle.net_nodes.specs.declared.Full.TheVariants.{Nets, List as ListFull}

abbrev pub run_of : Result ℕ Full → ℕ → Netlist → Made (List ℕ)
run_of (Ok k) b l = done (from k b, l)
run_of (Err Nets) b l = refused 9 0 0
run_of (Err ListFull) b l = refused 10 0 0

-- a call for b nets that the model describes answered r on the words w and left w'
pub record Runs (model : Made (List ℕ)) (n b : ℕ) (r : Result ℕ Full) (w w' : List ℕ) : Type 0 where
  pub says : model ≡ run_of r b (netlist_of n w')
  pub below : (k : ℕ) → r ≡ Ok k → k + b ≤ n
  pub built : Built n w'
  pub held : (idx : List ℕ) → Held n w idx → Held n w' idx

-- the node of bit b of an output port; the bits' nets stand in a list
abbrev pub output_node : ℕ → List ℕ → ℕ → Node
output_node s xs b = node 8 s b (get_or xs b 0) absent absent
