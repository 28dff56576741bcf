-- The lowering never refuses for want of fuel, with either flag: each phase keeps the marks' shape, and its calls of the builder refuse for want of room.
-- Assumes nothing.
use Prim.Native.Nat.{ℕ}
use Rattle.spec_model.specs.Words.{Netlist, source}
use Rattle.spec_model.specs.Builder.{add_input_port}
use Rattle.law_needs.specs.Room.{Roomy, recorded_room, nodes_room}

-- ---- ports ----

pub input_room : (s w : ℕ) (l : Netlist) → Roomy (add_input_port s w l)
unfolding add_input_port
input_room s w l = recorded_room _ _ (nodes_room (source 0 s) 0 w l)
