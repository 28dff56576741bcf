-- `net_gate_index::is_node` meets its contract. Assumes nothing.
use native.Mathlib.Omega.{arith}
use Rattle.spec_model.specs.Builder.{same}
use Rattle.net_view.specs.View.{node_at_of}
use Rattle.net_gate_index.proofs.is_node.Goals.{then-kind-net, else-kind-net, then-a-net, else-a-net, then-b-net, else-b-net}
use Rattle.net_gate_index.proofs.is_node.Goals as goal

pub returns-then-c-net : goal.returns-then-c-net
unfolding same node_at_of
returns-then-c-net c = grind arith

pub returns-else-c-net : goal.returns-else-c-net
unfolding same node_at_of
returns-else-c-net c = grind arith
