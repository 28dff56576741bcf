-- What an operation leaves: the builder's invariant and, if it was not refused, Nots as `add_mux` asks for them. Assumes nothing.
use Rattle.std.specs.Prelude.{◌≡◌, List, ℕ, Result, Ok}
use Rattle.net_view.specs.View.{netlist_of}
use Rattle.net_index.specs.Index.{Held}
use Rattle.net_nodes.specs.declared.Full.{Full}
use Rattle.net_gates.specs.Nots.{PlainNots}

pub record Steps (n : ℕ) (r : Result ℕ Full) (w idx : List ℕ) : Type 0 where
  pub held : Held n w idx
  pub nots : (k : ℕ) → r ≡ Ok k → PlainNots (netlist_of n w)
