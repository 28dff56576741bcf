-- The node of a mux whose condition may be a Not (`mux_node`), and the turn that takes the Not's input as the condition and exchanges the sides:
-- the node stays the same, and since no Not has a Not as its input, no turn is left after it (`turns_left`). Assumes nothing.
use Rattle.std.specs.Prelude.{◌≡◌, cond, List, ℕ, ◌<◌, eqb}
use Rattle.std.proofs.Common.{arith, eq-eqb, ne_eqb}
use Rattle.spec_model.specs.Words.{Node, gate, Netlist}
use Rattle.spec_model.specs.Builder.{node_for_net}
use Rattle.net_view.specs.View.{netlist_of}
use Rattle.net_gates.specs.Nots.{PlainNots}

-- as `Builder.mux_by` makes it
abbrev pub mux_node : Netlist → ℕ → ℕ → ℕ → Node
mux_node l c t e = cond (eqb (node_for_net l c).kind 5) (gate 6 (node_for_net l c).in0 e t) (gate 6 c t e)

-- how often the condition c is exchanged for its input
abbrev pub turns_left : Netlist → ℕ → ℕ
turns_left l c = cond (eqb (node_for_net l c).kind 5) 1 0

module _ (l : Netlist) (c : ℕ) where
  pub no_turn : (t e : ℕ) → ((node_for_net l c).kind ≡ 5 → ⊥) → gate 6 c t e ≡ mux_node l c t e
  no_turn t e k = rw (ne_eqb _ _ k)

  module _ (a : ℕ) (p : PlainNots l) (k : (node_for_net l c).kind ≡ 5) (i : a ≡ (node_for_net l c).in0) where
    pub same_node_law : (t e : ℕ) → mux_node l a e t ≡ mux_node l c t e
    same_node_law t e = rw (i, eq-eqb _ _ k, ne_eqb _ _ (p.all c k).inverter)

    pub last_turn : turns_left l a < turns_left l c
    last_turn = rw (i, eq-eqb _ _ k, ne_eqb _ _ (p.all c k).inverter) (omega arith)

-- the limit is no part of it
pub nots_any : (n k : ℕ) (w : List ℕ) → PlainNots (netlist_of n w) → PlainNots (netlist_of k w)
unfolding node_for_net
nots_any n k w p = record { all = λ i q. let x = p.all i q in record { lower = x.lower; constant = x.constant; inverter = x.inverter } }
