-- What making a cell asks, and what it gives. Assumes nothing.
use Rattle.std.specs.Prelude.{◌≡◌, false, List, ◌++◌, ℕ, ◌≤◌, ◌<◌, length, Option, Result}
use Rattle.std.proofs.Math.Option.{none}
use Rattle.spec_model.specs.Words.{source}
use Rattle.spec_model.specs.Builder.{Made, from}
use Rattle.spec_model.specs.WordCells.{find_cell, arithmetic, comparison}
use Rattle.net_view.specs.View.{netlist_of, Formed}
use Rattle.net_index.specs.Index.{is_gate, Key, hash_key, Held}
use Rattle.spec_tests.specs.Options.{option_of}
use Rattle.net_nodes.specs.declared.Full.{Full}
use Rattle.net_ports.specs.Runs.{run_of}
use Rattle.net_fold.specs.Values.{op_of, Fills}
use Rattle.net_fold.specs.declared.ArithmeticOp.{ArithmeticOp}
use Rattle.spec_model.specs.Builder as B
use Rattle.net_index.specs.CellSearch.{outputs}
use Rattle.net_cells.specs.declared.ComparisonOp.{ComparisonOp}
use Rattle.net_cells.specs.declared.ComparisonOp.TheVariants.{LessThanUnsigned, LessOrEqualUnsigned, LessThanSigned, LessOrEqualSigned}

-- the key of a cell that is not there yet, with b outputs
pub record CellRoom (n h kind b : ℕ) (key w idx : List ℕ) : Type 0 where
  pub held : Held n w idx
  pub whole : Key key
  pub hash : h ≡ hash_key n key
  pub less : h < n
  pub new : find_cell key (netlist_of n w).records ≡ none
  pub node : (owner : ℕ) → is_gate (source kind owner 0) ≡ false
  pub some : 0 < b
  pub few : b ≤ 1024
  pub formed : (first : ℕ) → Formed (key ++ from first b)

-- a call for b nets that the model describes answered r and left the words w and the index idx
pub record GivesRun (model : Made (List ℕ)) (n b : ℕ) (r : Result ℕ Full) (w idx : List ℕ) : Type 0 where
  pub says : model ≡ run_of r b (netlist_of n w)
  pub held : Held n w idx

-- the key of a cell with b outputs, whose nodes are of a kind
pub record CellKey (kind b : ℕ) (key : List ℕ) : Type 0 where
  pub whole : Key key
  pub outs : outputs key ≡ b
  pub node : (owner : ℕ) → is_gate (source kind owner 0) ≡ false
  pub some : 0 < b
  pub few : b ≤ 1024
  pub formed : (first : ℕ) → Formed (key ++ from first b)

-- operands, outputs and room of one width
pub record OneWidth (lhs rhs out x y : List ℕ) : Type 0 where
  pub right : length rhs ≡ length lhs
  pub result : length out ≡ length lhs
  pub first : length x ≡ length lhs
  pub second : length y ≡ length lhs
  pub some : 0 < length lhs
  pub few : length lhs ≤ 1024

abbrev pub compare_of : ComparisonOp → B.ComparisonOp
compare_of LessThanUnsigned = B.LessThanUnsigned
compare_of LessOrEqualUnsigned = B.LessOrEqualUnsigned
compare_of LessThanSigned = B.LessThanSigned
compare_of LessOrEqualSigned = B.LessOrEqualSigned

-- what a comparison gives, and what arithmetic gives
abbrev pub Compares : ComparisonOp → List ℕ → List ℕ → ℕ → List ℕ → Result ℕ Full → List ℕ → List ℕ → Type 0
Compares op lhs rhs n net r net' idx' = GivesRun (comparison (compare_of op) lhs rhs (netlist_of n net)) n 1 r net' idx'

abbrev pub Computes : ArithmeticOp → List ℕ → List ℕ → Option ℕ → ℕ → List ℕ → Result (Unit {0}) Full → List ℕ → List ℕ → List ℕ → Type 0
Computes op lhs rhs carry n net r out net' idx' = Fills (arithmetic (op_of op) lhs rhs (option_of carry) (netlist_of n net)) n r out net' idx'
