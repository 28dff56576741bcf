-- The ways through the gates' code, each as a law of the model. Assumes nothing.
use mathlib.Core.Path.{◌≡◌, refl, ◌∙◌}
use mathlib.Core.Bool.{Bool, true, false, not, cond}
use mathlib.Core.List.{List}
use mathlib.Core.Option.{none, some}
use Prim.Native.Nat.{ℕ, min, max}
use lib.Dec.{eqb}
use borrow.Author.Tests.{eq-eqb, ne_eqb}
use Rattle.spec_model.specs.Words.{absent, Node, gate, Netlist}
use Rattle.spec_model.specs.Builder.{done, Made, node_for_net, constant_value, is_value, is_constant, add_cached, add_constant, add_not, add_xor, add_mux}
use Rattle.net_view.specs.View.{netlist_of}
use Rattle.net_index.specs.Index.{Held}
use Rattle.net_nodes.specs.Gives.{Gives}
use Rattle.net_nodes.specs.declared.Full.{Full}
use Rattle.std.specs.Prelude.{Result, Ok}
use Rattle.net_gates.specs.Pairs.{and_or}
use Rattle.net_gates.specs.Turns.{mux_node}

-- the model says the same of both
pub gives_by : (m m' : Made ℕ) (n : ℕ) (r : Result ℕ Full) (w idx : List ℕ) → m ≡ m' → Gives m' n r w idx → Gives m n r w idx
gives_by m m' n r w idx e g = record { says = e ∙ g.says; held = g.held }

-- nothing was added
pub gives_net : (m : Made ℕ) (n k : ℕ) (w idx : List ℕ) → Held n w idx → m ≡ done (k, netlist_of n w) → Gives m n (Ok k) w idx
gives_net m n k w idx h e = record { says = e; held = h }

pub is_one : (v : Bool) → is_value v (some true) ≡ v
is_one true = refl
is_one false = refl

pub is_zero : (v : Bool) → is_value v (some false) ≡ not v
is_zero true = refl
is_zero false = refl

module _ (l : Netlist) (a : ℕ) where
  pub not_value : (v : Bool) → constant_value l a ≡ some v → add_not a l ≡ add_constant (not v) l
  unfolding add_not
  not_value v e = rw e

  pub not_not : constant_value l a ≡ none → (node_for_net l a).kind ≡ 5 → add_not a l ≡ done ((node_for_net l a).in0, l)
  unfolding add_not
  not_not e k = rw (e, eq-eqb _ _ k)

  pub not_gate : constant_value l a ≡ none → ((node_for_net l a).kind ≡ 5 → ⊥) → add_not a l ≡ add_cached (gate 5 a absent absent) l
  unfolding add_not
  not_gate e k = rw (e, ne_eqb _ _ k)

module _ (kind : ℕ) (v : Bool) (l : Netlist) (a b : ℕ) where
  pub pair_same : a ≡ b → and_or kind v a b l ≡ done (a, l)
  unfolding and_or
  pair_same e = rw (eq-eqb a b e)

  module _ (d : a ≡ b → ⊥) where
    pub pair_decided : is_constant v l a ≡ true → and_or kind v a b l ≡ add_constant v l
    unfolding and_or
    pair_decided x = rw (ne_eqb a b d, x)

    module _ (x : is_constant v l a ≡ false) where
      pub pair_decided₂ : is_constant v l b ≡ true → and_or kind v a b l ≡ add_constant v l
      unfolding and_or
      pair_decided₂ y = rw (ne_eqb a b d, x, y)

      module _ (y : is_constant v l b ≡ false) where
        pub pair_left : is_constant (not v) l a ≡ true → and_or kind v a b l ≡ done (b, l)
        unfolding and_or
        pair_left x₁ = rw (ne_eqb a b d, x, y, x₁)

        module _ (x₁ : is_constant (not v) l a ≡ false) where
          pub pair_left₂ : is_constant (not v) l b ≡ true → and_or kind v a b l ≡ done (a, l)
          unfolding and_or
          pair_left₂ y₁ = rw (ne_eqb a b d, x, y, x₁, y₁)

          pub pair_gate : is_constant (not v) l b ≡ false → and_or kind v a b l ≡ add_cached (gate kind (min a b) (max a b) absent) l
          unfolding and_or
          pair_gate y₁ = rw (ne_eqb a b d, x, y, x₁, y₁)

module _ (l : Netlist) (a b : ℕ) where
  pub xor_same : a ≡ b → add_xor a b l ≡ add_constant false l
  unfolding add_xor
  xor_same e = rw (eq-eqb a b e)

  module _ (d : a ≡ b → ⊥) where
    pub xor_zero : is_constant false l a ≡ true → add_xor a b l ≡ done (b, l)
    unfolding add_xor
    xor_zero x = rw (ne_eqb a b d, x)

    module _ (x : is_constant false l a ≡ false) where
      pub xor_zero₂ : is_constant false l b ≡ true → add_xor a b l ≡ done (a, l)
      unfolding add_xor
      xor_zero₂ y = rw (ne_eqb a b d, x, y)

      module _ (y : is_constant false l b ≡ false) where
        pub xor_one : is_constant true l a ≡ true → add_xor a b l ≡ add_not b l
        unfolding add_xor
        xor_one x₁ = rw (ne_eqb a b d, x, y, x₁)

        module _ (x₁ : is_constant true l a ≡ false) where
          pub xor_one₂ : is_constant true l b ≡ true → add_xor a b l ≡ add_not a l
          unfolding add_xor
          xor_one₂ y₁ = rw (ne_eqb a b d, x, y, x₁, y₁)

          pub xor_gate : is_constant true l b ≡ false → add_xor a b l ≡ add_cached (gate 4 (min a b) (max a b) absent) l
          unfolding add_xor
          xor_gate y₁ = rw (ne_eqb a b d, x, y, x₁, y₁)

module _ (l : Netlist) (c t e : ℕ) where
  pub mux_same : t ≡ e → add_mux c t e l ≡ done (t, l)
  unfolding add_mux
  mux_same p = rw (eq-eqb t e p)

  module _ (d : t ≡ e → ⊥) where
    pub mux_one : constant_value l c ≡ some true → add_mux c t e l ≡ done (t, l)
    unfolding add_mux
    mux_one p = rw (ne_eqb t e d, p)

    pub mux_zero : constant_value l c ≡ some false → add_mux c t e l ≡ done (e, l)
    unfolding add_mux
    mux_zero p = rw (ne_eqb t e d, p)

    pub mux_node_law : constant_value l c ≡ none → add_mux c t e l ≡ add_cached (mux_node l c t e) l
    unfolding add_mux
    mux_node_law p = rw (ne_eqb t e d, p) (cached_if (eqb (node_for_net l c).kind 5) (gate 6 (node_for_net l c).in0 e t) (gate 6 c t e))
      where
        cached_if : (b : Bool) (x y : Node) → cond b (add_cached x l) (add_cached y l) ≡ add_cached (cond b x y) l
        cached_if true x y = refl
        cached_if false x y = refl
