-- What keeping the nets that were made gives. Assumes nothing.
use Rattle.std.specs.Prelude.{◌≡◌, List, ℕ, Result, Ok, Err}
use Rattle.spec_model.specs.Lowering.{State}
use Rattle.net_nodes.specs.declared.Full.{Full}
use Rattle.scratch_view.specs.View.{Writes}
use Rattle.walk_view.specs.Refusals.{Lowered, refusal_of}

-- the walk's answer
abbrev pub lowered_of : Result (Unit {0}) Full → Lowered
lowered_of (Ok u) = Ok u
lowered_of (Err e) = Err (refusal_of e)

-- nets that were made are stored
abbrev pub stored_by : Result (Unit {0}) Full → (State → State) → State → State
stored_by (Ok u) op st = op st
stored_by (Err e) op st = st

pub record Keeps (op : State → State) (s w : List ℕ) (made : Result (Unit {0}) Full) (r : Lowered) (w' : List ℕ) : Type 0 where
  pub answers : r ≡ lowered_of made
  pub writes : Writes (stored_by made op) s w w'
