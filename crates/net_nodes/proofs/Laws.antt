-- A node's words as the model reads them; a node more, and none more. Assumes nothing.
use mathlib.Core.Path.{◌≡◌, refl, sym, ap, ◌∙◌}
use mathlib.Core.Bool.{false}
use mathlib.Core.List.{List}
use Prim.Native.Nat.{ℕ, zero, suc, ◌+◌, ◌*◌, ◌≤◌, ◌<◌}
use native.Mathlib.Omega.{arith}
use native.Mathlib.Nat.{add-zero}
use native.Mathlib.Numerals.{add-one, add-two, add-three, add-four, add_five}
use lib.ListN.{length, get_or, set}
use borrow.Author.Tests.{lt-ltb, le-ltb}
use Rattle.spec_model.specs.Words.{absent, Node, node, gate}
use Rattle.spec_model.specs.Builder.{node_for_net, add_node, done}
use Rattle.net_view.specs.View.{node_at_of, netlist_of, Built}
use Rattle.net_view.specs.Laws.{node_there, node_past, node_pushed, count_is, with_node, Holds}
use Rattle.net_index.specs.Index.{is_gate}
use Rattle.net_index.specs.Held.{held_other}
use Rattle.net_nodes.specs.Gives.{node_words, Adds}
use Rattle.net_nodes.specs.declared.Full.TheVariants.{Nets}
use Rattle.std.specs.Prelude.{Ok, Err}

-- a node's words in the netlist's words
word_here : (w : List ℕ) (k f : ℕ) → f < 6 → get_or w (16 + 6 * k + f) 0 ≡ get_or (node_words (node_at_of w k)) f 0
unfolding node_at_of
word_here w k zero l = ap (λ (p : ℕ). get_or w p 0) (add-zero (16 + 6 * k))
word_here w k (suc zero) l = refl
word_here w k (suc (suc zero)) l = refl
word_here w k (suc (suc (suc zero))) l = refl
word_here w k (suc (suc (suc (suc zero)))) l = refl
word_here w k (suc (suc (suc (suc (suc zero))))) l = refl
word_here w k (suc (suc (suc (suc (suc (suc f)))))) l = absurd (omega arith)

word_absent : (f : ℕ) → f < 6 → absent ≡ get_or (node_words (gate absent absent absent absent)) f 0
word_absent zero l = refl
word_absent (suc zero) l = refl
word_absent (suc (suc zero)) l = refl
word_absent (suc (suc (suc zero))) l = refl
word_absent (suc (suc (suc (suc zero)))) l = refl
word_absent (suc (suc (suc (suc (suc zero))))) l = refl
word_absent (suc (suc (suc (suc (suc (suc f)))))) l = absurd (omega arith)

module _ (w : List ℕ) (k f : ℕ) (s : f < 6) where
  pub word_there : k < get_or w 1 0 → (n : ℕ) → get_or w (16 + 6 * k + f) 0 ≡ get_or (node_words (node_for_net (netlist_of n w) k)) f 0
  word_there l n = word_here w k f s ∙ ap (λ (x : Node). get_or (node_words x) f 0) (sym (node_there n w k l))

  pub word_past : get_or w 1 0 ≤ k → (n : ℕ) → absent ≡ get_or (node_words (node_for_net (netlist_of n w) k)) f 0
  word_past l n = word_absent f s ∙ ap (λ (x : Node). get_or (node_words x) f 0) (sym (node_past n w k l))

-- the stores of a node
pub pushed : (w : List ℕ) (k o b x y z : ℕ) (n : ℕ) → Built n w → get_or w 1 0 < n
    → let c = get_or w 1 0 in let p = 16 + 6 * c in
    Holds n (with_node (node k o b x y z) (netlist_of n w))
    (set (set (set (set (set (set (set w p k) (p + 1) o) (p + 2) b) (p + 3) x) (p + 4) y) (p + 5) z) 1 (c + 1))
pushed w k o b x y z n h l =
    let c = get_or w 1 0 in
    let p = 16 + 6 * c in
    rw (add-one p, add-two p, add-three p, add-four p, add_five p, add-one c) (node_pushed n w h (node k o b x y z) l)

module _ (w : List ℕ) (n : ℕ) (x : Node) (h : Built n w) where
  pub node_added : (w' : List ℕ) → is_gate x ≡ false → get_or w 1 0 < n → Holds n (with_node x (netlist_of n w)) w'
      → Adds (add_node x (netlist_of n w)) n (Ok (get_or w 1 0)) w w'
  unfolding add_node
  node_added w' g l v = record {
    says = rw (lt-ltb (length (netlist_of n w).nodes) n (omega (arith, count_is n w h))) (λ i. done (count_is n w h i, sym v.view i));
    built = v.built;
    held = λ idx d. held_other n w idx w' x d v g;
  }

  pub node_refused : n ≤ get_or w 1 0 → Adds (add_node x (netlist_of n w)) n (Err Nets) w w
  unfolding add_node
  node_refused l = record { says = rw (le-ltb (length (netlist_of n w).nodes) n (omega (arith, count_is n w h))); built = h; held = λ idx d. d }
