-- Many nodes added in order, and a record pushed. Assumes nothing.
use Rattle.std.specs.Prelude.{◌≡◌, refl, Bool, true, false, cond, List, [], ◌∷◌, ◌++◌, map, ℕ, zero, suc, ◌+◌, ◌-◌, ◌≤◌, ◌<◌, ltb, leb, length, get_or}
use Rattle.std.proofs.Common.{sym, ap, ◌∙◌, not-suc-le-zero, le_of_suc-le-suc, add-zero, arith, ltb-true, leb-true}
use Rattle.spec_model.specs.Words.{Node, Netlist, used}
use Rattle.spec_model.specs.Builder.{refused, done, and_then, Made, add_node, each, both, from, add_nodes, push, add_recorded, node_for_net}
use Rattle.word_laws.specs.Runs.{from_at}
use Rattle.net_view.specs.Laws.{with_node, with_record}
use Rattle.law_nets.specs.Meaning.{records_with}
use Rattle.law_nets.specs.Sound.{count, Grew}
use Rattle.law_nets.specs.Run.{grew_refl, grew_trans, Meets, meets_bind, Limit}
use Rattle.law_nets.specs.Nodes.{node_grew, with_new, with_same}
use Rattle.law_gates.specs.Nodes.{grew_node, newest, no_node}

-- the nodes xs in order, the last the newest
abbrev pub with_nodes : List Node → Netlist → Netlist
with_nodes [] l = l
with_nodes (x ∷ xs) l = with_nodes xs (with_node x l)

pub grew_nodes : (xs : List Node) (l : Netlist) → Grew l (with_nodes xs l)
grew_nodes [] l = grew_refl l
grew_nodes (x ∷ xs) l = grew_trans (grew_node x l) (grew_nodes xs (with_node x l))

pub count_nodes : (xs : List Node) (l : Netlist) → count (with_nodes xs l) ≡ count l + length xs
count_nodes [] l = sym (add-zero (count l))
count_nodes (x ∷ xs) l = count_nodes xs (with_node x l) ∙ omega arith

pub nodes_limits : (xs : List Node) (l : Netlist) → ((with_nodes xs l).max_nets ≡ l.max_nets) × ((with_nodes xs l).max_list ≡ l.max_list) × ((with_nodes xs l).records ≡ l.records)
nodes_limits [] l = (refl, refl, refl)
nodes_limits (x ∷ xs) l = nodes_limits xs (with_node x l)

-- node i of them is net count l + i
pub node_added : (xs : List Node) (l : Netlist) (i : ℕ) → i < length xs → node_for_net (with_nodes xs l) (count l + i) ≡ get_or xs i no_node
node_added [] l i h = absurd (not-suc-le-zero h)
node_added (x ∷ xs) l zero h =
    ap (node_for_net (with_nodes xs (with_node x l))) (add-zero (count l))
    ∙ node_grew (grew_nodes xs (with_node x l)) (count l) (omega arith) ∙ newest x l
node_added (x ∷ xs) l (suc i) h =
    ap (node_for_net (with_nodes xs (with_node x l))) {x = count l + suc i} {y = suc (count l) + i} (omega arith) ∙ node_added xs (with_node x l) i (le_of_suc-le-suc h)

-- ---- the calls that add nodes ----

-- the nets that are given, the netlist then, and that there was room
pub record NodesAdded (xs : List Node) (l : Netlist) (ns : List ℕ) (l' : Netlist) : Type 0 where
  pub nets : ns ≡ from (count l) (length xs)
  pub then : l' ≡ with_nodes xs l
  pub room : count l + length xs ≤ l.max_nets

abbrev pub Adds : List Node → Netlist → Made (List ℕ) → Type 0
Adds xs l o = Meets Limit (λ (r : List ℕ × Netlist). NodesAdded xs l r.0 r.1) o

adds_nil : (l : Netlist) → count l ≤ l.max_nets → NodesAdded [] l [] l
unfolding from
adds_nil l h = record { nets = refl; then = refl; room = omega arith }

adds_cons : (x : Node) (xs : List Node) (l : Netlist) (ns : List ℕ) (l' : Netlist) → NodesAdded xs (with_node x l) ns l' → NodesAdded (x ∷ xs) l (count l ∷ ns) l'
unfolding from
adds_cons x xs l ns l' a = record { nets = ap (λ (t : List ℕ). count l ∷ t) a.nets; then = a.then; room = omega (arith, a.room) }

-- one node, then others
next : (x : Node) (xs : List Node) (l : Netlist) (k : Netlist → Made (List ℕ)) → (count l < l.max_nets → Adds xs (with_node x l) (k (with_node x l)))
    → Adds (x ∷ xs) l (and_then (add_node x l) (λ (n, l₁). and_then (k l₁) (λ (ns, l₂). done (n ∷ ns, l₂))))
unfolding add_node
next x xs l k f = go (ltb (count l) l.max_nets) refl
  where
    go : (t : Bool) → ltb (count l) l.max_nets ≡ t
        → Adds (x ∷ xs) l (and_then (cond t (done (count l, with_node x l)) (refused 9 0 0)) (λ (n, l₁). and_then (k l₁) (λ (ns, l₂). done (n ∷ ns, l₂))))
    go true e = meets_bind Limit (λ (r : List ℕ × Netlist). NodesAdded xs (with_node x l) r.0 r.1) (λ (r : List ℕ × Netlist). NodesAdded (x ∷ xs) l r.0 r.1)
        (k (with_node x l)) (λ (ns, l₂). done (count l ∷ ns, l₂)) (f (ltb-true (count l) l.max_nets e)) (λ r a. adds_cons x xs l r.0 r.1 a)
    go false e = Limit.nets

each_adds : (x : ℕ → Node) (is : List ℕ) (l : Netlist) → count l ≤ l.max_nets → Adds (map x is) l (each (λ i. add_node (x i)) is l)
unfolding each
each_adds x [] l h = adds_nil l h
each_adds x (i ∷ is) l h = next (x i) (map x is) l (each (λ j. add_node (x j)) is) (λ b. each_adds x is (with_node (x i) l) b)

pub nodes_added : (x : ℕ → Node) (b w : ℕ) (l : Netlist) → count l ≤ l.max_nets → Adds (map x (from b w)) l (add_nodes x b w l)
unfolding add_nodes
nodes_added x b w l h = each_adds x (from b w) l h

abbrev pub pairs : (ℕ → ℕ → Node) → List ℕ → List ℕ → List Node
pairs x [] ys = []
pairs x (i ∷ is) [] = []
pairs x (i ∷ is) (y ∷ ys) = x i y ∷ pairs x is ys

pub both_adds : (x : ℕ → ℕ → Node) (is ys : List ℕ) (l : Netlist) → count l ≤ l.max_nets → Adds (pairs x is ys) l (both (λ i y. add_node (x i y)) is ys l)
unfolding both
both_adds x [] ys l h = adds_nil l h
both_adds x (i ∷ is) [] l h = adds_nil l h
both_adds x (i ∷ is) (y ∷ ys) l h = next (x i y) (pairs x is ys) l (both (λ j z. add_node (x j z)) is ys) (λ b. both_adds x is ys (with_node (x i y) l) b)

-- ---- a record ----

pub grew_record : (r : List ℕ) (l : Netlist) → Grew l (with_record r l)
grew_record r l = record { nets = refl; list = refl; added = []; nodes = refl; pushed = r ∷ []; records = refl }

pub pushed : (r : List ℕ) (l : Netlist) → Meets Limit (λ (l' : Netlist). (l' ≡ with_record r l) × (used l.records + length r ≤ l.max_list)) (push r l)
unfolding push
pushed r l = go (leb (used l.records + length r) l.max_list) refl
  where
    go : (t : Bool) → leb (used l.records + length r) l.max_list ≡ t
        → Meets Limit (λ (l' : Netlist). (l' ≡ with_record r l) × (used l.records + length r ≤ l.max_list)) (cond t (done (with_record r l)) (refused 10 0 0))
    go true e = (refl, leb-true (used l.records + length r) l.max_list e)
    go false e = Limit.list

-- nodes, and a record of key and their nets
pub record Recorded (key : List ℕ) (xs : List Node) (l : Netlist) (ns : List ℕ) (l' : Netlist) : Type 0 where
  pub nets : ns ≡ from (count l) (length xs)
  pub then : l' ≡ with_record (key ++ ns) (with_nodes xs l)
  pub room : count l + length xs ≤ l.max_nets
  pub list : used l.records + length (key ++ ns) ≤ l.max_list

pub recorded : (key : List ℕ) (xs : List Node) (l : Netlist) (o : Made (List ℕ)) → Adds xs l o
    → Meets Limit (λ (r : List ℕ × Netlist). Recorded key xs l r.0 r.1) (add_recorded key o)
unfolding add_recorded
recorded key xs l o a =
    meets_bind Limit (λ (r : List ℕ × Netlist). NodesAdded xs l r.0 r.1) (λ (r : List ℕ × Netlist). Recorded key xs l r.0 r.1) o
    (λ (ns, l₁). and_then (push (key ++ ns) l₁) (λ l₂. done (ns, l₂))) a (λ r b.
    meets_bind Limit (λ (l₂ : Netlist). (l₂ ≡ with_record (key ++ r.0) r.1) × (used r.1.records + length (key ++ r.0) ≤ r.1.max_list))
    (λ (p : List ℕ × Netlist). Recorded key xs l p.0 p.1) (push (key ++ r.0) r.1) (λ l₂. done (r.0, l₂)) (pushed (key ++ r.0) r.1) (λ l₂ p.
    let m = nodes_limits xs l in
    let e : used r.1.records ≡ used l.records = ap (λ (k : Netlist). used k.records) b.then ∙ ap used m.2 in
    let f : r.1.max_list ≡ l.max_list = ap (λ (k : Netlist). k.max_list) b.then ∙ m.1 in
    record { nets = b.nets; then = p.0 ∙ ap (with_record (key ++ r.0)) b.then; room = b.room; list = omega (arith, p.1) }))

-- the nodes, the nets and the records after it
module _ (key : List ℕ) (xs : List Node) (l : Netlist) (ns : List ℕ) (l' : Netlist) (a : Recorded key xs l ns l') where
  pub recorded_node : (i : ℕ) → i < length xs → node_for_net l' (count l + i) ≡ get_or xs i no_node
  recorded_node i h =
      ap (λ (k : Netlist). node_for_net k (count l + i)) a.then
      ∙ node_grew (grew_record (key ++ ns) (with_nodes xs l)) (count l + i) (rw (count_nodes xs l) (omega arith)) ∙ node_added xs l i h

  pub recorded_net : (i d : ℕ) → i < length xs → get_or ns i d ≡ count l + i
  recorded_net i d h = ap (λ (t : List ℕ). get_or t i d) a.nets ∙ from_at (count l) (length xs) i d h

  pub recorded_count : count l' ≡ count l + length xs
  recorded_count = ap count a.then ∙ count_nodes xs l

  pub recorded_new : (t : ℕ) → get_or (key ++ ns) 0 0 ≡ t → records_with t l'.records ≡ records_with t l.records ++ ((key ++ ns) ∷ [])
  recorded_new t e =
      ap (λ (k : Netlist). records_with t k.records) a.then ∙ with_new t (with_nodes xs l).records (key ++ ns) e
      ∙ ap (λ (rs : List (List ℕ)). records_with t rs ++ ((key ++ ns) ∷ [])) (nodes_limits xs l).2

  pub recorded_others : (t : ℕ) → (get_or (key ++ ns) 0 0 ≡ t → ⊥) → records_with t l'.records ≡ records_with t l.records
  recorded_others t e =
      ap (λ (k : Netlist). records_with t k.records) a.then ∙ with_same t (with_nodes xs l).records (key ++ ns) e ∙ ap (records_with t) (nodes_limits xs l).2
