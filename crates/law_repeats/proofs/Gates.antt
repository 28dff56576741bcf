-- What is proved of specs/Gates: Constants and gates made again, one of them, a list, and one for each pair of two lists. Assumes nothing.
use Rattle.std.specs.Prelude.{◌≡◌, refl, Bool, not, cond, List, [], ◌∷◌, ℕ, ◌<◌, min, max, eqb, ltb, length}
use Rattle.std.proofs.Common.{ap, le_trans, arith}
use Rattle.std.proofs.Math.Bool.{true, false}
use Rattle.std.proofs.Math.Option.{Option, none, some}
use Rattle.spec_model.specs.Words.{absent, Node, node, gate, Netlist, bit_word}
use Rattle.spec_model.specs.Builder.{refused, done, add_node, node_for_net, find, or_made, add_cached, add_constant, not_by, add_not, add_and, add_or, add_xor, mux_by, add_mux, each, both}
use Rattle.spec_model.specs.Ranges.{Gate, AndGate, OrGate, XorGate}
use Rattle.spec_model.specs.Lowering.{add_gate}
use Rattle.net_view.specs.Laws.{with_node}
use Rattle.word_laws.specs.Widths.{AllBelow}
use Rattle.law_nets.specs.Sound.{count}
use Rattle.law_nets.specs.Nodes.{count_grew}
use Rattle.law_repeats.specs.Again.{Looked, stays_refl, below_stays, Repeats, Again, again_here, again_if, again_value, again_node}
use Rattle.law_repeats.specs.Added.{find_made, stays_node}
use Rattle.law_repeats.specs.Gates.{again_both, again_cons, again_each, again_either, again_eq, again_is}

-- ---- a node that is looked for, or made ----

pub again_cached : (x : Node) (l : Netlist) → Looked x → Again (add_cached x) l
unfolding add_cached add_node
again_cached x l h = record { again = go (find x l.nodes) refl }
  where
    hit : (k : ℕ) (l'' : Netlist) → find x l''.nodes ≡ some k → add_cached x l'' ≡ done (k, l'')
    hit k l'' e = ap (λ (o : Option ℕ). or_made o l'' (add_node x l'')) e

    room : (t : Bool) → find x l.nodes ≡ none → Repeats (add_cached x) l (cond t (done (length l.nodes, with_node x l)) (refused 9 0 0))
    room true n = (stays_node x l (λ p. n), λ l'' s. hit (length l.nodes) l'' (s.found x (length l.nodes) h (find_made x l.nodes)))
    room false n = tt

    go : (o : Option ℕ) → find x l.nodes ≡ o → Repeats (add_cached x) l (or_made o l (add_node x l))
    go (some k) e = (stays_refl l, λ l'' s. hit k l'' (s.found x k h e))
    go none e = room (ltb (length l.nodes) l.max_nets) e

pub again_constant : (v : Bool) (l : Netlist) → Again (add_constant v) l
unfolding add_constant
again_constant v l = again_cached (node 1 (bit_word v) absent absent absent absent) l (omega arith)

-- ---- gates: what is known of an operand stays ----

pub again_not : (a : ℕ) (l : Netlist) → a < count l → Again (add_not a) l
unfolding add_not
again_not a l h = again_value (λ o l'. not_by o (node_for_net l' a) a l') a l h (λ o. again_node (λ x l'. not_by o x a l') a l h (by o))
  where
    by : (o : Option Bool) → Again (λ l'. not_by o (node_for_net l a) a l') l
    by (some v) = again_constant (not v) l
    by none = again_if (λ l'. eqb (node_for_net l a).kind 5) _ _ l (λ l'' s. refl) (λ e. again_here (node_for_net l a).in0 l) (λ e. again_cached (gate 5 a absent absent) l (omega arith))

module _ (a b : ℕ) (l : Netlist) (h : a < count l) (k : b < count l) where
  pub again_and : Again (add_and a b) l
  unfolding add_and
  again_and =
      again_eq a b _ _ l (again_here a l) (again_either false a b _ _ l h k (again_constant false l) (again_is true a _ _ l h (again_here b l)
      (again_is true b _ _ l k (again_here a l) (again_cached (gate 2 (min a b) (max a b) absent) l (omega arith)))))

  pub again_or : Again (add_or a b) l
  unfolding add_or
  again_or =
      again_eq a b _ _ l (again_here a l) (again_either true a b _ _ l h k (again_constant true l) (again_is false a _ _ l h (again_here b l)
      (again_is false b _ _ l k (again_here a l) (again_cached (gate 3 (min a b) (max a b) absent) l (omega arith)))))

  pub again_xor : Again (add_xor a b) l
  unfolding add_xor
  again_xor =
      again_eq a b _ _ l (again_constant false l) (again_is false a _ _ l h (again_here b l) (again_is false b _ _ l k (again_here a l)
      (again_is true a _ _ l h (again_not b l k) (again_is true b _ _ l k (again_not a l h) (again_cached (gate 4 (min a b) (max a b) absent) l (omega arith))))))

pub again_gate : (g : Gate) (a b : ℕ) (l : Netlist) → a < count l → b < count l → Again (add_gate g a b) l
again_gate AndGate a b l h k = again_and a b l h k
again_gate OrGate a b l h k = again_or a b l h k
again_gate XorGate a b l h k = again_xor a b l h k

-- the sides are not looked at
pub again_mux : (c t e : ℕ) (l : Netlist) → c < count l → Again (add_mux c t e) l
unfolding add_mux
again_mux c t e l h =
    again_eq t e _ _ l (again_here t l) (again_value (λ o l'. mux_by o (node_for_net l' c) c t e l') c l h (λ o. again_node (λ x l'. mux_by o x c t e l') c l h (by o)))
  where
    by : (o : Option Bool) → Again (λ l'. mux_by o (node_for_net l c) c t e l') l
    by (some v) = again_here (cond v t e) l
    by none = again_eq (node_for_net l c).kind 5 _ _ l (again_cached (gate 6 (node_for_net l c).in0 e t) l (omega arith)) (again_cached (gate 6 c t e) l (omega arith))

pub again_constants : (vs : List Bool) (l : Netlist) → Again (each add_constant vs) l
again_constants vs l = again_each add_constant (λ v l'. Unit {0}) (λ v l' h. again_constant v l') (λ v l₁ l₂ s h. tt) vs l (λ v i e. tt)

pub again_nots : (xs : List ℕ) (l : Netlist) → AllBelow (count l) xs → Again (each add_not xs) l
unfolding each
again_nots [] l b = again_here [] l
again_nots (x ∷ xs) l b = again_cons (add_not x) (each add_not xs) l (again_not x l b.0) (λ l₁ s. again_nots xs l₁ (below_stays s xs b.1))

pub again_gates : (g : Gate) (xs ys : List ℕ) (l : Netlist) → AllBelow (count l) xs → AllBelow (count l) ys → Again (both (add_gate g) xs ys) l
again_gates g xs ys l p q = again_both (add_gate g) (again_gate g) xs ys l p q

pub again_muxes : (c : ℕ) (ts es : List ℕ) (l : Netlist) → c < count l → Again (both (add_mux c) ts es) l
unfolding both
again_muxes c [] es l h = again_here [] l
again_muxes c (t ∷ ts) [] l h = again_here [] l
again_muxes c (t ∷ ts) (e ∷ es) l h = again_cons (add_mux c t e) (both (add_mux c) ts es) l (again_mux c t e l h) (λ l₁ s. again_muxes c ts es l₁ (le_trans h (count_grew s.grew)))
