-- From a call's answer to what later calls ask. After each operation no Not has a Not or a constant as its input: over the model, then over
-- the calls' contracts. Assumes nothing.
use mathlib.Core.Path.{◌≡◌, refl, sym, ap, ◌∙◌}
use mathlib.Core.Bool.{Bool, true, false, true≢false, not, cond, ◌||◌}
use mathlib.Core.List.{List, ◌∷◌, [], ◌++◌}
use mathlib.Core.Option.{Option, none, some}
use Prim.Native.Nat.{ℕ, ◌+◌, ◌*◌, ◌≤◌, ◌<◌, min, max}
use native.Mathlib.Omega.{arith}
use lib.Dec.{eqb, leb}
use lib.ListN.{length, get_or, take, replicate}
use lib.Seq.{length-take-le}
use borrow.Author.Tests.{eq-eqb, eqb-false}
use Rattle.spec_model.specs.Words.{absent, Node, node, source, gate, Netlist, used, count, arithmetic_key, comparison_key}
use Rattle.spec_model.specs.Builder.{refused, done, and_then, Made, node_for_net, constant_of, constant_value, is_constant, add_node, add_cached, add_constant, not_by, add_not, add_and, add_or, add_xor, from, add_nodes, push, add_recorded, add_input_port, add_output_port, ArithmeticOp, ComparisonOp, arithmetic_word, comparison_word, fold_constant_arithmetic, arithmetic_by, add_arithmetic, add_comparison}
use Rattle.spec_model.specs.WordCells.{find_cell, arithmetic, comparison}
use Rattle.spec_rules.specs.Checks.{checked}
use Rattle.check_image.specs.Checked.{answer_of}
use Rattle.check_image.specs.Accepted.{accepted}
use Rattle.check_image.specs.declared.Refusal.{Refusal}
use Rattle.law_accepted.specs.Formed.{readable}
use Rattle.expr_laws.specs.Exprs.{Readable}
use Rattle.net_view.specs.View.{netlist_of}
use Rattle.net_view.specs.Laws.{length_nodes_of, with_record, empty, Holds}
use Rattle.net_index.specs.Index.{Held}
use Rattle.net_index.specs.Start.{held_start}
use Rattle.net_nodes.specs.Gives.{out_of, Gives}
use Rattle.std.specs.Prelude.{Result, Ok, Err, is_ok}
use Rattle.net_nodes.specs.declared.Full.{Full}
use Rattle.net_ports.specs.Runs.{run_of}
use Rattle.net_fold.specs.Values.{filled_of, Fills}
use Rattle.net_gates.specs.Nots.{PlainNots, not_there, Keeps, keeps_done, keeps_if, keeps_bind, keeps_made, keeps_node, keeps_cached, keeps_constant, keeps_each, keeps_both, kept}
use Rattle.compare_parts.specs.Steps.{Steps}

-- ---- an image that passes, nets of a word ----

pub fine_readable : (s : List ℕ) (c : Result (Unit {0}) Refusal) → answer_of c ≡ checked s 1 0 22 98372 → is_ok c ≡ true → Readable s
fine_readable s (Ok u) e f = readable s (accepted s 1 0 22 98372 (sym e)).0
fine_readable s (Err r) e f = absurd (true≢false (sym f))

-- the front of an array of 1,024 words
pub front : (w : ℕ) (l : List ℕ) → length l ≡ 1024 → w ≤ 1024 → length (take w l) ≡ w
front w l e h = length-take-le {A = ℕ} w l (omega arith)

-- ---- gates ----

not_constant : (x : Node) → constant_of x ≡ none → x.kind ≡ 1 → ⊥
not_constant x e k =
    let s : constant_of x ≡ some (eqb x.owner 1) = rw (eq-eqb x.kind 1 k) in
    let z : ◌≡◌ {A = ℕ} 0 1 = cc in
    absurd (omega arith)

pub keeps_not : (a : ℕ) (l : Netlist) → a < length l.nodes → PlainNots l → Keeps (add_not a l)
unfolding add_not constant_value
keeps_not a l h p = go (constant_of (node_for_net l a)) refl
  where
    go : (o : Option Bool) → constant_of (node_for_net l a) ≡ o → Keeps (not_by o (node_for_net l a) a l)
    go (some v) e = keeps_constant (not v) l p
    go none e = keeps_if (eqb (node_for_net l a).kind 5) (λ _. keeps_done p)
        (λ q. keeps_cached (gate 5 a absent absent) l (λ _. record { lower = h; constant = not_constant (node_for_net l a) e; inverter = eqb-false (node_for_net l a).kind 5 q }) p)

-- And and Or fold alike
module _ (v : Bool) (kind : ℕ) (other : kind ≡ 5 → ⊥) where
  keeps_folded : (a b : ℕ) (l : Netlist) → PlainNots l → Keeps
      (cond (eqb a b) (done (a, l))
      (cond (is_constant v l a || is_constant v l b) (add_constant v l)
      (cond (is_constant (not v) l a) (done (b, l))
      (cond (is_constant (not v) l b) (done (a, l))
      (add_cached (gate kind (min a b) (max a b) absent) l)))))
  keeps_folded a b l p =
      keeps_if (eqb a b) (λ _. keeps_done p)
      (λ _. keeps_if (is_constant v l a || is_constant v l b) (λ _. keeps_constant v l p)
      (λ _. keeps_if (is_constant (not v) l a) (λ _. keeps_done p)
      (λ _. keeps_if (is_constant (not v) l b) (λ _. keeps_done p)
      (λ _. keeps_cached (gate kind (min a b) (max a b) absent) l (λ q. absurd (other q)) p))))

pub keeps_and : (a b : ℕ) (l : Netlist) → PlainNots l → Keeps (add_and a b l)
unfolding add_and
keeps_and a b l p = keeps_folded false 2 (omega arith) a b l p

pub keeps_or : (a b : ℕ) (l : Netlist) → PlainNots l → Keeps (add_or a b l)
unfolding add_or
keeps_or a b l p = keeps_folded true 3 (omega arith) a b l p

pub keeps_xor : (a b : ℕ) (l : Netlist) → a < length l.nodes → b < length l.nodes → PlainNots l → Keeps (add_xor a b l)
unfolding add_xor
keeps_xor a b l ha hb p =
    keeps_if (eqb a b) (λ _. keeps_constant false l p)
    (λ _. keeps_if (is_constant false l a) (λ _. keeps_done p)
    (λ _. keeps_if (is_constant false l b) (λ _. keeps_done p)
    (λ _. keeps_if (is_constant true l a) (λ _. keeps_not b l hb p)
    (λ _. keeps_if (is_constant true l b) (λ _. keeps_not a l ha p)
    (λ _. keeps_cached (gate 4 (min a b) (max a b) absent) l (λ q. absurd (omega arith)) p)))))

-- ---- nodes with a record ----

nots_record : (r : List ℕ) (l : Netlist) → PlainNots l → PlainNots (with_record r l)
unfolding node_for_net
nots_record r l p = record { all = λ i q. let a = p.all i q in record { lower = a.lower; constant = a.constant; inverter = a.inverter } }

keeps_push : (r ns : List ℕ) (l : Netlist) → PlainNots l → Keeps (and_then (push r l) (λ l₁. done (ns, l₁)))
unfolding push
keeps_push r ns l p = go (leb (used l.records + length r) l.max_list)
  where
    go : (t : Bool) → Keeps (and_then (cond t (done (with_record r l)) (refused 10 0 0)) (λ l₁. done (ns, l₁)))
    go true = keeps_done (nots_record r l p)
    go false = record { left = tt }

keeps_recorded : (r : List ℕ) (m : Made (List ℕ)) → Keeps m → Keeps (add_recorded r m)
unfolding add_recorded
keeps_recorded r m h = keeps_bind m _ h (λ ns l p. keeps_push (r ++ ns) ns l p)

keeps_sources : (kind o b w : ℕ) (l : Netlist) → (kind ≡ 5 → ⊥) → PlainNots l → Keeps (add_nodes (source kind o) b w l)
unfolding add_nodes
keeps_sources kind o b w l other p = keeps_each (λ i. add_node (source kind o i)) (λ i l₁ q. keeps_node (source kind o i) l₁ (λ e. absurd (other e)) q) (from b w) l p

pub keeps_input : (s w : ℕ) (l : Netlist) → PlainNots l → Keeps (add_input_port s w l)
unfolding add_input_port
keeps_input s w l p = keeps_recorded (0 ∷ s ∷ w ∷ []) _ (keeps_sources 0 s 0 w l (omega arith) p)

pub keeps_output : (s : ℕ) (xs : List ℕ) (l : Netlist) → PlainNots l → Keeps (add_output_port s xs l)
unfolding add_output_port
keeps_output s xs l p =
    keeps_recorded (0 ∷ s ∷ length xs ∷ []) _
    (keeps_both (λ b x. add_node (node 8 s b x absent absent)) (λ b x l₁ q. keeps_node (node 8 s b x absent absent) l₁ (λ e. absurd (omega arith)) q) (from 0 (length xs)) xs l p)

pub keeps_comparison : (op : ComparisonOp) (lhs rhs : List ℕ) (l : Netlist) → PlainNots l → Keeps (comparison op lhs rhs l)
unfolding comparison add_comparison
keeps_comparison op lhs rhs l p =
    keeps_made (find_cell (comparison_key (comparison_word op) lhs rhs) l.records) p
    (keeps_recorded (comparison_key (comparison_word op) lhs rhs) _ (keeps_sources 11 (count 4 l.records) 0 1 l (omega arith) p))

pub keeps_arithmetic : (op : ArithmeticOp) (lhs rhs : List ℕ) (carry : Option ℕ) (l : Netlist) → PlainNots l → Keeps (arithmetic op lhs rhs carry l)
unfolding arithmetic add_arithmetic
keeps_arithmetic op lhs rhs carry l p =
    keeps_made (find_cell (arithmetic_key (arithmetic_word op) lhs rhs carry) l.records) p (go (fold_constant_arithmetic op lhs rhs carry l))
  where
    go : (o : Option (List Bool)) → Keeps (arithmetic_by o op lhs rhs carry l)
    go (some vs) = keeps_each add_constant keeps_constant vs l p
    go none = keeps_recorded (arithmetic_key (arithmetic_word op) lhs rhs carry) _ (keeps_sources 10 (count 3 l.records) 0 (length lhs) l (omega arith) p)

-- ---- the calls ----

-- a net that is there, whatever the limit
pub there : (w : List ℕ) (a : ℕ) → a < get_or w 1 0 → a < length (netlist_of 0 w).nodes
there w a h = omega (arith, length_nodes_of w (get_or w 1 0))

module _ {n : ℕ} {r : Result ℕ Full} {w idx : List ℕ} where
  pub gives : {m : Made ℕ} → Keeps m → Gives m n r w idx → Steps n r w idx
  gives h g = record { held = g.held; nots = λ k e. kept h (g.says ∙ ap (λ (x : Result ℕ Full). out_of x (netlist_of n w)) e) }

  pub runs : {m : Made (List ℕ)} (b : ℕ) → Keeps m → Held n w idx → m ≡ run_of r b (netlist_of n w) → Steps n r w idx
  runs b h held e = record { held = held; nots = λ k q. kept h (e ∙ ap (λ (x : Result ℕ Full). run_of x b (netlist_of n w)) q) }

pub fills : {m : Made (List ℕ)} {n : ℕ} {f : Result (Unit {0}) Full} {out w idx : List ℕ} (d : ℕ) → Keeps m → Fills m n f out w idx → f ≡ Ok tt → Steps n (Ok d) w idx
fills {n} {out} {w} d h g e = record { held = g.held; nots = λ k _. kept h (g.says ∙ ap (λ (x : Result (Unit {0}) Full). filled_of x out (netlist_of n w)) e) }

-- after a refusal nothing is said of the netlist
pub full_steps : {n : ℕ} {w idx : List ℕ} (e : Full) → Held n w idx → Steps n (Err e) w idx
full_steps e h = record { held = h; nots = λ k q. let z : ◌≡◌ {A = ℕ} 0 1 = cc in absurd (omega arith) }

-- ---- the empty netlist ----

pub held_empty : (n k p : ℕ) (w idx : List ℕ) → k ≡ 4 * n → Holds n (empty n p) w → idx ≡ replicate k 0 → Held n w idx
held_empty n k p w idx l h e = rw (e, l) (held_start n p w h)

pub nots_empty : (n p : ℕ) (w : List ℕ) → Holds n (empty n p) w → PlainNots (netlist_of n w)
nots_empty n p w h = rw h.view (record { all = λ i q. absurd (omega (arith, not_there (empty n p) i q)) })
