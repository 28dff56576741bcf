-- The ways through add_cached, each as a law of the model. Assumes nothing.
use mathlib.Core.Path.{◌≡◌, sym}
use mathlib.Core.Bool.{true}
use mathlib.Core.List.{List, [], ◌∷◌}
use mathlib.Core.Option.{none, some}
use Prim.Native.Nat.{ℕ, ◌≤◌, ◌<◌}
use native.Mathlib.Omega.{arith}
use lib.ListN.{length, get_or}
use borrow.Author.Tests.{lt-ltb, le-ltb}
use Rattle.spec_model.specs.Words.{Node, node}
use Rattle.spec_model.specs.Builder.{find, add_node, add_cached, done}
use Rattle.net_view.specs.View.{nodes_of, netlist_of}
use Rattle.net_view.specs.Laws.{count_is, with_node, Holds}
use Rattle.net_index.specs.Index.{mixed, hash_words, is_gate, hash_node, Held}
use Rattle.net_index.specs.Laws.{linked}
use Rattle.net_index.specs.Held.{held_gate}
use Rattle.net_nodes.specs.Gives.{Gives}
use Rattle.net_nodes.specs.declared.Full.TheVariants.{Nets}
use Rattle.std.specs.Prelude.{Ok, Err}

pub gate_is : (k o b x y z : ℕ) → 0 < k → k < 7 → is_gate (node k o b x y z) ≡ true
unfolding is_gate
gate_is k o b x y z p q = rw (lt-ltb 0 k p, lt-ltb k 7 q)

-- the hash word by word
pub mixed_five : (k o x y z h₁ h₂ h₃ h₄ h₅ : ℕ) → h₁ ≡ mixed 0 k → h₂ ≡ mixed h₁ x → h₃ ≡ mixed h₂ y → h₄ ≡ mixed h₃ z → h₅ ≡ mixed h₄ o
    → h₅ ≡ hash_words 0 (k ∷ x ∷ y ∷ z ∷ o ∷ [])
unfolding hash_words
mixed_five k o x y z h₁ h₂ h₃ h₄ h₅ e₁ e₂ e₃ e₄ e₅ = rw (e₅, e₄, e₃, e₂, e₁)

-- an equal node, a new one, and no room
module _ (n : ℕ) (w idx : List ℕ) (x : Node) (h : Held n w idx) where
  pub cached_found : (k : ℕ) → find x (nodes_of w (get_or w 1 0)) ≡ some k → Gives (add_cached x (netlist_of n w)) n (Ok k) w idx
  unfolding add_cached
  cached_found k e = record { says = rw e; held = h }

  pub cached_full : find x (nodes_of w (get_or w 1 0)) ≡ none → n ≤ get_or w 1 0 → Gives (add_cached x (netlist_of n w)) n (Err Nets) w idx
  unfolding add_cached add_node
  cached_full e l = record { says = rw (e, le-ltb (length (netlist_of n w).nodes) n (omega (arith, count_is n w h.built))); held = h }

  pub cached_new : (w' idx' : List ℕ) → find x (nodes_of w (get_or w 1 0)) ≡ none → get_or w 1 0 < n → is_gate x ≡ true
      → Holds n (with_node x (netlist_of n w)) w' → idx' ≡ linked n (get_or w 1 0) (hash_node n x) idx
      → Gives (add_cached x (netlist_of n w)) n (Ok (get_or w 1 0)) w' idx'
  unfolding add_cached add_node
  cached_new w' idx' e l g v i =
      let c = count_is n w h.built in
      record {
        says = rw (e, lt-ltb (length (netlist_of n w).nodes) n (omega (arith, c))) (λ j. done (c j, sym v.view j));
        held = rw (i, ← c) (held_gate n w idx w' x h v g (omega (arith, c)));
      }
