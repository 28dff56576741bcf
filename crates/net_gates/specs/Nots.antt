-- No Not has a Not or a constant as its input, and its input is a lower net (`PlainNots`): what `add_mux` asks, so that its loop makes one
-- turn at most. A call that adds only other nodes keeps it: a constant, a mux, lists of them. Assumes nothing.
use Rattle.std.specs.Prelude.{◌≡◌, refl, Ok, Bool, true, false, cond, List, [], ◌∷◌, eqb, ltb, length}
use Rattle.std.proofs.Common.{sym, ap, subst, ◌∙◌, ⊎_elim, eq-or-lt_of_le}
use Rattle.std.proofs.Math.Option.{Option, none, some}
use Prim.Native.Nat.{ℕ, suc, ◌-◌, ◌≤◌, ◌<◌}
use Rattle.std.proofs.Math.Decide.{dec_lt}
use native.Mathlib.Omega.{arith}
use Rattle.std.proofs.Math.ListN.{get_or}
use borrow.Author.Tests.{lt-ltb, le-ltb}
use Rattle.spec_model.specs.Words.{absent, Node, node, gate, Netlist, bit_word}
use Rattle.spec_model.specs.Builder.{refused, done, and_then, Made, add_node, node_for_net, constant_value, find, or_made, add_cached, add_constant, mux_by, add_mux, each, both}
use Rattle.net_view.specs.View.{netlist_of}
use Rattle.net_view.specs.Laws.{with_node}
use Rattle.net_nodes.specs.Gives.{Gives}

-- net a as the input of a Not at net i
pub record PlainNot (l : Netlist) (i a : ℕ) : Type 0 where
  pub lower : a < i
  pub constant : (node_for_net l a).kind ≡ 1 → ⊥
  pub inverter : (node_for_net l a).kind ≡ 5 → ⊥

pub record PlainNots (l : Netlist) : Type 0 where
  pub all : (i : ℕ) → (node_for_net l i).kind ≡ 5 → PlainNot l i (node_for_net l i).in0

-- ---- one node more ----

abbrev no_node : Node
no_node = gate absent absent absent absent

-- a Not is one of the nodes
pub not_there : (l : Netlist) (i : ℕ) → (node_for_net l i).kind ≡ 5 → i < length l.nodes
unfolding node_for_net
not_there l i q = elim (dec_lt i (length l.nodes)) [
  | yes h ↦ h
  | no h ↦ let e : absent ≡ 5 = rw (le-ltb i (length l.nodes) (omega arith)) at q in absurd (omega arith)
]

module _ (x : Node) (l : Netlist) where
  node_old : (i : ℕ) → i < length l.nodes → node_for_net (with_node x l) i ≡ node_for_net l i
  unfolding node_for_net
  node_old i h =
      let e : suc (length l.nodes) - suc i ≡ suc (length l.nodes - suc i) = omega arith in
      rw (lt-ltb i (suc (length l.nodes)) (omega arith), lt-ltb i (length l.nodes) h) (ap (λ (j : ℕ). get_or (x ∷ l.nodes) j no_node) e)

  node_new : node_for_net (with_node x l) (length l.nodes) ≡ x
  unfolding node_for_net
  node_new =
      let e : suc (length l.nodes) - suc (length l.nodes) ≡ 0 = omega arith in
      rw (lt-ltb (length l.nodes) (suc (length l.nodes)) (omega arith)) (ap (λ (j : ℕ). get_or (x ∷ l.nodes) j no_node) e)

  plain_old : (i a : ℕ) → i ≤ length l.nodes → PlainNot l i a → PlainNot (with_node x l) i a
  plain_old i a h p =
      let e = node_old a (omega (arith, p.lower)) in
      record { lower = p.lower; constant = rw e p.constant; inverter = rw e p.inverter }

  pub nots_node : (x.kind ≡ 5 → PlainNot l (length l.nodes) x.in0) → PlainNots l → PlainNots (with_node x l)
  nots_node f p = record {
    all = λ i q. ⊎_elim
        (λ (e : i ≡ length l.nodes). subst (λ (j : ℕ). (node_for_net (with_node x l) j).kind ≡ 5 → PlainNot (with_node x l) j (node_for_net (with_node x l) j).in0) (sym e) newest q)
        (λ (h : i < length l.nodes). rw (node_old i h) (plain_old i _ (omega arith) (p.all i (sym (ap (λ (y : Node). y.kind) (node_old i h)) ∙ q))))
        (eq-or-lt_of_le (omega (arith, not_there (with_node x l) i q)));
  }
    where
      newest : (node_for_net (with_node x l) (length l.nodes)).kind ≡ 5 → PlainNot (with_node x l) (length l.nodes) (node_for_net (with_node x l) (length l.nodes)).in0
      newest = rw node_new (λ q. plain_old (length l.nodes) x.in0 (omega arith) (f q))

-- ---- calls ----

-- refused, or such a netlist
abbrev pub Left : {A : Type 0} → Made A → Type 0
Left (refused n x y) = Unit {0}
Left (done r) = PlainNots r.1

-- a call with this outcome
pub record Keeps {A : Type 0} (o : Made A) : Type 0 where
  pub left : Left o

pub keeps_done : {A : Type 0} {a : A} {l : Netlist} → PlainNots l → Keeps (done (a, l))
keeps_done p = record { left = p }

pub keeps_if : {A : Type 0} {a b : Made A} (t : Bool) → (t ≡ true → Keeps a) → (t ≡ false → Keeps b) → Keeps (cond t a b)
keeps_if true h k = h refl
keeps_if false h k = k refl

pub keeps_bind : {A B : Type 0} (o : Made A) (k : A × Netlist → Made B) → Keeps o → ((a : A) (l : Netlist) → PlainNots l → Keeps (k (a, l))) → Keeps (and_then o k)
keeps_bind (refused n x y) k h f = record { left = tt }
keeps_bind (done r) k h f = f r.0 r.1 h.left

pub keeps_made : {A : Type 0} (o : Option A) {l : Netlist} {m : Made A} → PlainNots l → Keeps m → Keeps (or_made o l m)
keeps_made (some a) p h = keeps_done p
keeps_made none p h = h

pub keeps_node : (x : Node) (l : Netlist) → (x.kind ≡ 5 → PlainNot l (length l.nodes) x.in0) → PlainNots l → Keeps (add_node x l)
unfolding add_node
keeps_node x l f p = keeps_if (ltb (length l.nodes) l.max_nets) (λ _. keeps_done (nots_node x l f p)) (λ _. record { left = tt })

pub keeps_cached : (x : Node) (l : Netlist) → (x.kind ≡ 5 → PlainNot l (length l.nodes) x.in0) → PlainNots l → Keeps (add_cached x l)
unfolding add_cached
keeps_cached x l f p = keeps_made (find x l.nodes) p (keeps_node x l f p)

pub keeps_constant : (v : Bool) (l : Netlist) → PlainNots l → Keeps (add_constant v l)
unfolding add_constant
keeps_constant v l p = keeps_cached (node 1 (bit_word v) absent absent absent absent) l (λ q. absurd (omega arith)) p

pub keeps_mux : (c t e : ℕ) (l : Netlist) → PlainNots l → Keeps (add_mux c t e l)
unfolding add_mux
keeps_mux c t e l p = keeps_if (eqb t e) (λ _. keeps_done p) (λ _. go (constant_value l c))
  where
    go : (o : Option Bool) → Keeps (mux_by o (node_for_net l c) c t e l)
    go (some v) = keeps_done p
    go none = keeps_if (eqb (node_for_net l c).kind 5)
        (λ _. keeps_cached (gate 6 (node_for_net l c).in0 e t) l (λ q. absurd (omega arith)) p) (λ _. keeps_cached (gate 6 c t e) l (λ q. absurd (omega arith)) p)

pub keeps_each : {A : Type 0} (f : A → Netlist → Made ℕ) → ((a : A) (l : Netlist) → PlainNots l → Keeps (f a l)) → (xs : List A) (l : Netlist) → PlainNots l → Keeps (each f xs l)
unfolding each
keeps_each f h [] l p = keeps_done p
keeps_each f h (x ∷ xs) l p = keeps_bind (f x l) _ (h x l p) (λ n l₁ q. keeps_bind (each f xs l₁) _ (keeps_each f h xs l₁ q) (λ ns l₂ z. keeps_done z))

pub keeps_both : (f : ℕ → ℕ → Netlist → Made ℕ) → ((a b : ℕ) (l : Netlist) → PlainNots l → Keeps (f a b l)) → (xs ys : List ℕ) (l : Netlist) → PlainNots l → Keeps (both f xs ys l)
unfolding both
keeps_both f h [] ys l p = keeps_done p
keeps_both f h (x ∷ xs) [] l p = keeps_done p
keeps_both f h (x ∷ xs) (y ∷ ys) l p = keeps_bind (f x y l) _ (h x y l p) (λ n l₁ q. keeps_bind (both f xs ys l₁) _ (keeps_both f h xs ys l₁ q) (λ ns l₂ z. keeps_done z))

-- in the words that a call left
pub kept : {A : Type 0} {m o : Made A} → Keeps m → m ≡ o → Left o
kept h e = subst (λ x. Left x) e h.left

pub kept_constant : (v : Bool) {l : Netlist} {n k : ℕ} {w idx : List ℕ} → PlainNots l → Gives (add_constant v l) n (Ok k) w idx → PlainNots (netlist_of n w)
kept_constant v {l} p g = kept (keeps_constant v l p) g.says

pub kept_mux : (c t e : ℕ) {l : Netlist} {n k : ℕ} {w idx : List ℕ} → PlainNots l → Gives (add_mux c t e l) n (Ok k) w idx → PlainNots (netlist_of n w)
kept_mux c t e {l} p g = kept (keeps_mux c t e l p) g.says
