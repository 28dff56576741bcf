-- `net_gates::plain_mux` meets its contract: each turn leaves the mux's node as it is, and none is left after the first. Assumes nothing.
use mathlib.Core.Path.{◌≡◌}
use Prim.Native.Nat.{ℕ}
use Rattle.net_view.specs.View.{netlist_of}
use Rattle.net_gates.specs.Turns.{mux_node, turns_left}
use Rattle.net_gates.proofs.plain_mux.Given as goal

abbrev pub invariant-loop-m : goal.invariant-loop-m
invariant-loop-m l = (n : ℕ) → mux_node (netlist_of n l.net) l.m.condition l.m.then_net l.m.else_net ≡ mux_node (netlist_of n l.net) l.condition l.then_net l.else_net

abbrev pub decreases-loop-m : goal.decreases-loop-m
decreases-loop-m l = turns_left (netlist_of 0 l.net) l.m.condition
