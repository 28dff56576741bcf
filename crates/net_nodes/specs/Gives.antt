-- What the builder's calls answer, and how an answer and the words after it stand to the model. Assumes nothing.
use Rattle.std.specs.Prelude.{◌≡◌, List, [], ◌∷◌, ℕ, Result, Ok, Err}
use Rattle.spec_model.specs.Words.{Node, Netlist}
use Rattle.spec_model.specs.Builder.{refused, done, Made}
use Rattle.net_view.specs.View.{netlist_of, Built}
use Rattle.net_index.specs.Index.{Held}
use Rattle.net_nodes.specs.declared.Full.{Full}
use Rattle.net_nodes.specs.declared.Full.TheVariants.{Nets, List as ListFull}

-- a node's words in order
abbrev pub node_words : Node → List ℕ
node_words x = x.kind ∷ x.owner ∷ x.bit ∷ x.in0 ∷ x.in1 ∷ x.in2 ∷ []

-- refusals 9 and 10
abbrev pub out_of : Result ℕ Full → Netlist → Made ℕ
out_of (Ok k) l = done (k, l)
out_of (Err Nets) l = refused 9 0 0
out_of (Err ListFull) l = refused 10 0 0

-- a call that the model describes answered r and left the words w and the index idx
pub record Gives (model : Made ℕ) (n : ℕ) (r : Result ℕ Full) (w idx : List ℕ) : Type 0 where
  pub says : model ≡ out_of r (netlist_of n w)
  pub held : Held n w idx

-- one that touches no index: from the words w it left w'
pub record Adds (model : Made ℕ) (n : ℕ) (r : Result ℕ Full) (w w' : List ℕ) : Type 0 where
  pub says : model ≡ out_of r (netlist_of n w')
  pub built : Built n w'
  pub held : (idx : List ℕ) → Held n w idx → Held n w' idx
