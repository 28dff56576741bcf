-- What the builder's calls keep: what holds of a netlist, and still with one gate, constant, cell output or cell record more, holds after
-- each call but those that make a port. Assumes nothing.
use Rattle.std.specs.Prelude.{◌≡◌, Bool, ◌||◌, eqb, leb, ltb}
use Rattle.std.proofs.Common.{sym, subst, arith}
use Rattle.std.proofs.Math.Bool.{true, false}
use mathlib.Core.List.{List, [], ◌∷◌, ◌++◌}
use Rattle.std.proofs.Math.Option.{Option, none, some}
use Prim.Native.Nat.{ℕ, zero, suc, ◌+◌, ◌^◌, ◌<◌, min, max}
use Rattle.std.proofs.Math.ListN.{length}
use Rattle.spec_rtl.specs.Rtl as R
use Rattle.spec_rtl.specs.Rtl.{Unary, Binary}
use Rattle.spec_model.specs.Words.{absent, Node, node, source, gate, Netlist, bit_word, used, count, arithmetic_key, comparison_key}
use Rattle.spec_model.specs.Builder.{done, and_then, Made, add_node, push, node_for_net, constant_value, is_constant, find, or_made, add_cached, add_constant, not_by, add_not, add_and, add_or, add_xor, mux_by, add_mux, also, each, both, from, add_nodes, add_recorded, add_input_port, add_output_port, ArithmeticOp, ComparisonOp, arithmetic_word, comparison_word, fold_constant_arithmetic, arithmetic_by, add_arithmetic, add_comparison}
use Rattle.spec_model.specs.WordCells.{find_cell, arithmetic, comparison}
use Rattle.spec_model.specs.Ranges.{Gate, AndGate, OrGate, XorGate}
use Rattle.spec_model.specs.Lowering.{add_gate, level, levels, reduce_tree, add_equal, equal_words, Shift, shifted, stages, shift, lower_unary, lower_binary}
use Rattle.law_owners.specs.Ends.{Ends, ends_done, ends_refused, ends_then, ends_if}

abbrev pub with_node : Node → Netlist → Netlist
with_node x l = record { max_nets = l.max_nets; max_list = l.max_list; nodes = x ∷ l.nodes; records = l.records }

abbrev pub with_record : List ℕ → Netlist → Netlist
with_record r l = record { max_nets = l.max_nets; max_list = l.max_list; nodes = l.nodes; records = l.records ++ (r ∷ []) }

-- K holds with this node, with this record more
abbrev pub Adds : (Netlist → Type 0) → Node → Type 0
Adds K x = (l : Netlist) → K l → K (with_node x l)

abbrev pub Puts : (Netlist → Type 0) → List ℕ → Type 0
Puts K r = (l : Netlist) → K l → K (with_record r l)

-- with each node that has no name, and each cell whose operands have S
pub record Closed (K : Netlist → Type 0) (S : List ℕ → Type 0) : Type 0 where
  pub constant : (v : Bool) → Adds K (node 1 (bit_word v) absent absent absent absent)
  pub both : (x y : ℕ) → Adds K (gate 2 x y absent)
  pub either : (x y : ℕ) → Adds K (gate 3 x y absent)
  pub differ : (x y : ℕ) → Adds K (gate 4 x y absent)
  pub inverse : (x : ℕ) → Adds K (gate 5 x absent absent)
  pub choice : (x y z : ℕ) → Adds K (gate 6 x y z)
  pub arithmetic : (o : ℕ) (xs : List ℕ) → S xs → (i : ℕ) → i < length xs → Adds K (source 10 o i)
  pub comparison : (o : ℕ) → Adds K (source 11 o 0)
  pub arithmetic_cell : (op : ℕ) (xs ys : List ℕ) (c : Option ℕ) → S xs → (ns : List ℕ) → Puts K (arithmetic_key op xs ys c ++ ns)
  pub comparison_cell : (op : ℕ) (xs ys : List ℕ) → S xs → (ns : List ℕ) → Puts K (comparison_key op xs ys ++ ns)

-- an answer leaves a netlist with it
abbrev pub Leaves : {A : Type 0} → (Netlist → Type 0) → Made A → Type 0
Leaves K o = Ends (λ r. K r.1) o

module _ (K : Netlist → Type 0) where
  pub node_kept : (x : Node) → Adds K x → (l : Netlist) → K l → Leaves K (add_node x l)
  unfolding add_node
  node_kept x q l h = ends_if (ltb (length l.nodes) l.max_nets) (ends_done (q l h)) ends_refused

  pub push_kept : (r : List ℕ) → Puts K r → (l : Netlist) → K l → Ends K (push r l)
  unfolding push
  push_kept r t l h = ends_if (leb (used l.records + length r) l.max_list) (ends_done (t l h)) ends_refused

  -- one net for each of a list
  also_kept : (n : ℕ) (o : Made (List ℕ)) → Leaves K o → Leaves K (also n o)
  also_kept n o w = ends_then o w (λ r h. ends_done h)

  pub each_kept : {A : Type 0} (f : A → Netlist → Made ℕ) → ((a : A) (l : Netlist) → K l → Leaves K (f a l)) → (xs : List A) (l : Netlist) → K l
      → Leaves K (each f xs l)
  unfolding each
  each_kept f w [] l h = ends_done h
  each_kept f w (x ∷ xs) l h = ends_then (f x l) (w x l h) (λ r k. also_kept r.0 (each f xs r.1) (each_kept f w xs r.1 k))

  pub both_kept : (f : ℕ → ℕ → Netlist → Made ℕ) → ((a b : ℕ) (l : Netlist) → K l → Leaves K (f a b l)) → (xs ys : List ℕ) (l : Netlist) → K l
      → Leaves K (both f xs ys l)
  unfolding both
  both_kept f w [] ys l h = ends_done h
  both_kept f w (x ∷ xs) [] l h = ends_done h
  both_kept f w (x ∷ xs) (y ∷ ys) l h = ends_then (f x y l) (w x y l h) (λ r k. also_kept r.0 (both f xs ys r.1) (both_kept f w xs ys r.1 k))

  pub nodes_kept : (x : ℕ → Node) (b w : ℕ) → ((i : ℕ) → i < b + w → Adds K (x i)) → (l : Netlist) → K l → Leaves K (add_nodes x b w l)
  unfolding add_nodes each from
  nodes_kept x b zero q l h = ends_done h
  nodes_kept x b (suc w) q l h =
      ends_then (add_node (x b) l) (node_kept (x b) (q b (omega arith)) l h)
      (λ r k. also_kept r.0 (each (λ i. add_node (x i)) (from (suc b) w) r.1) (nodes_kept x (suc b) w (λ i j. q i (omega arith)) r.1 k))

  recorded_kept : (r : List ℕ) → ((ns : List ℕ) → Puts K (r ++ ns)) → (o : Made (List ℕ)) → Leaves K o → Leaves K (add_recorded r o)
  unfolding add_recorded
  recorded_kept r t o w = ends_then o w (λ (ns, l) h. ends_then (push (r ++ ns) l) (push_kept (r ++ ns) (t ns) l h) (λ l₁ k. ends_done k))

  pub input_kept : (s w : ℕ) → ((i : ℕ) → Adds K (source 0 s i)) → ((ns : List ℕ) → Puts K (0 ∷ s ∷ ns)) → (l : Netlist) → K l → Leaves K (add_input_port s w l)
  unfolding add_input_port
  input_kept s w q t l h = recorded_kept (0 ∷ s ∷ w ∷ []) (λ ns. t (w ∷ ns)) (add_nodes (source 0 s) 0 w l) (nodes_kept (source 0 s) 0 w (λ i k. q i) l h)

  pub output_kept : (s : ℕ) (xs : List ℕ) → ((b x : ℕ) → Adds K (node 8 s b x absent absent)) → ((ns : List ℕ) → Puts K (0 ∷ s ∷ ns)) → (l : Netlist) → K l
      → Leaves K (add_output_port s xs l)
  unfolding add_output_port
  output_kept s xs q t l h =
      recorded_kept (0 ∷ s ∷ length xs ∷ []) (λ ns. t (length xs ∷ ns)) (both (λ b x. add_node (node 8 s b x absent absent)) (from 0 (length xs)) xs l)
      (both_kept (λ b x. add_node (node 8 s b x absent absent)) (λ b x l₁ k. node_kept (node 8 s b x absent absent) (q b x) l₁ k) (from 0 (length xs)) xs l h)

  -- ---- gates ----

  module _ (S : List ℕ → Type 0) (closed : Closed K S) where
    found_kept : {A : Type 0} (o : Option A) (l : Netlist) (r : Made A) → K l → Leaves K r → Leaves K (or_made o l r)
    found_kept none l r h w = w
    found_kept (some a) l r h w = ends_done h

    cached_kept : (x : Node) → Adds K x → (l : Netlist) → K l → Leaves K (add_cached x l)
    unfolding add_cached
    cached_kept x e l h = found_kept (find x l.nodes) l (add_node x l) h (node_kept x e l h)

    pub constant_kept : (v : Bool) (l : Netlist) → K l → Leaves K (add_constant v l)
    unfolding add_constant
    constant_kept v l h = cached_kept _ (closed.constant v) l h

    not_kept : (n : ℕ) (l : Netlist) → K l → Leaves K (add_not n l)
    unfolding add_not
    not_kept n l h = go (constant_value l n)
      where
        go : (o : Option Bool) → Leaves K (not_by o (node_for_net l n) n l)
        go (some v) = constant_kept _ l h
        go none = ends_if (eqb (node_for_net l n).kind 5) (ends_done h) (cached_kept _ (closed.inverse n) l h)

    and_kept : (a b : ℕ) (l : Netlist) → K l → Leaves K (add_and a b l)
    unfolding add_and
    and_kept a b l h =
        ends_if (eqb a b) (ends_done h)
        (ends_if (is_constant false l a || is_constant false l b) (constant_kept false l h)
        (ends_if (is_constant true l a) (ends_done h)
        (ends_if (is_constant true l b) (ends_done h) (cached_kept _ (closed.both (min a b) (max a b)) l h))))

    or_kept : (a b : ℕ) (l : Netlist) → K l → Leaves K (add_or a b l)
    unfolding add_or
    or_kept a b l h =
        ends_if (eqb a b) (ends_done h)
        (ends_if (is_constant true l a || is_constant true l b) (constant_kept true l h)
        (ends_if (is_constant false l a) (ends_done h)
        (ends_if (is_constant false l b) (ends_done h) (cached_kept _ (closed.either (min a b) (max a b)) l h))))

    xor_kept : (a b : ℕ) (l : Netlist) → K l → Leaves K (add_xor a b l)
    unfolding add_xor
    xor_kept a b l h =
        ends_if (eqb a b) (constant_kept false l h)
        (ends_if (is_constant false l a) (ends_done h)
        (ends_if (is_constant false l b) (ends_done h)
        (ends_if (is_constant true l a) (not_kept b l h)
        (ends_if (is_constant true l b) (not_kept a l h) (cached_kept _ (closed.differ (min a b) (max a b)) l h)))))

    pub mux_kept : (c t e : ℕ) (l : Netlist) → K l → Leaves K (add_mux c t e l)
    unfolding add_mux
    mux_kept c t e l h = ends_if (eqb t e) (ends_done h) (go (constant_value l c))
      where
        go : (o : Option Bool) → Leaves K (mux_by o (node_for_net l c) c t e l)
        go (some v) = ends_done h
        go none = ends_if (eqb (node_for_net l c).kind 5) (cached_kept _ (closed.choice _ e t) l h) (cached_kept _ (closed.choice c t e) l h)

    pub constants_kept : (vs : List Bool) (l : Netlist) → K l → Leaves K (each add_constant vs l)
    constants_kept vs l h = each_kept add_constant constant_kept vs l h

    pub nots_kept : (ns : List ℕ) (l : Netlist) → K l → Leaves K (each add_not ns l)
    nots_kept ns l h = each_kept add_not not_kept ns l h

    gate_kept : (g : Gate) (a b : ℕ) (l : Netlist) → K l → Leaves K (add_gate g a b l)
    gate_kept AndGate a b l h = and_kept a b l h
    gate_kept OrGate a b l h = or_kept a b l h
    gate_kept XorGate a b l h = xor_kept a b l h

    pub gates_kept : (g : Gate) (xs ys : List ℕ) (l : Netlist) → K l → Leaves K (both (add_gate g) xs ys l)
    gates_kept g xs ys l h = both_kept (add_gate g) (gate_kept g) xs ys l h

    pub muxes_kept : (c : ℕ) (xs ys : List ℕ) (l : Netlist) → K l → Leaves K (both (add_mux c) xs ys l)
    muxes_kept c xs ys l h = both_kept (add_mux c) (mux_kept c) xs ys l h

    -- ---- trees, equality, shifts ----

    level_kept : (g : Gate) (xs : List ℕ) (l : Netlist) → K l → Leaves K (level g xs l)
    unfolding level
    level_kept g [] l h = ends_done h
    level_kept g (x ∷ []) l h = ends_done h
    level_kept g (x ∷ y ∷ xs) l h = ends_then (add_gate g x y l) (gate_kept g x y l h) (λ r k. also_kept r.0 (level g xs r.1) (level_kept g xs r.1 k))

    levels_kept : (f : ℕ) (g : Gate) (xs : List ℕ) (l : Netlist) → K l → Leaves K (levels f g xs l)
    unfolding levels
    levels_kept zero g xs l h = ends_done h
    levels_kept (suc f) g xs l h = go (ltb 1 (length xs)) (λ ys l₁ k. levels_kept f g ys l₁ k)
      where
        go : (t : Bool) → ((ys : List ℕ) (l₁ : Netlist) → K l₁ → Leaves K (levels f g ys l₁))
            → Leaves {A = List ℕ} K (elim t [ true ↦ and_then (level g xs l) (λ (ys, l₁). levels f g ys l₁) | false ↦ done (xs, l) ])
        go true ih = ends_then (level g xs l) (level_kept g xs l h) (λ r k. ih r.0 r.1 k)
        go false ih = ends_done h

    tree_kept : (g : Gate) (v : Bool) (xs : List ℕ) (l : Netlist) → K l → Leaves K (reduce_tree g v xs l)
    unfolding reduce_tree
    tree_kept g v [] l h = constants_kept (v ∷ []) l h
    tree_kept g v (x ∷ xs) l h = levels_kept (length xs) g (x ∷ xs) l h

    equal_kept : (x y : ℕ) (l : Netlist) → K l → Leaves K (add_equal x y l)
    unfolding add_equal
    equal_kept x y l h = ends_then (add_xor x y l) (xor_kept x y l h) (λ r k. not_kept r.0 r.1 k)

    equals_kept : (xs ys : List ℕ) (l : Netlist) → K l → Leaves K (equal_words xs ys l)
    unfolding equal_words
    equals_kept xs ys l h = ends_then (both add_equal xs ys l) (both_kept add_equal equal_kept xs ys l h) (λ r k. tree_kept AndGate true r.0 r.1 k)

    stages_kept : (s : Shift) (z k : ℕ) (ss r : List ℕ) (l : Netlist) → K l → Leaves K (stages s z k ss r l)
    unfolding stages
    stages_kept s z k [] r l h = ends_done h
    stages_kept s z k (x ∷ ss) r l h =
        ends_then (both (add_mux x) (shifted s z (min (2 ^ k) (length r)) r) r l) (muxes_kept x (shifted s z (min (2 ^ k) (length r)) r) r l h)
        (λ q i. stages_kept s z (suc k) ss q.0 q.1 i)

    shift_kept : (s : Shift) (xs ys : List ℕ) (l : Netlist) → K l → Leaves K (shift s xs ys l)
    unfolding shift
    shift_kept s xs ys l h = ends_then (add_constant false l) (constant_kept false l h) (λ r k. stages_kept s r.0 0 ys xs r.1 k)

    -- ---- cells and operators ----

    only_output : (o i : ℕ) → i < 1 → Adds K (source 11 o i)
    only_output o i h = let z : i ≡ 0 = omega arith in subst (λ (k : ℕ). Adds K (source 11 o k)) (sym z) (closed.comparison o)

    pub arithmetic_kept : (op : ArithmeticOp) (xs ys : List ℕ) (c : Option ℕ) (l : Netlist) → S xs → K l → Leaves K (arithmetic op xs ys c l)
    unfolding arithmetic add_arithmetic
    arithmetic_kept op xs ys c l a h =
        found_kept (find_cell (arithmetic_key (arithmetic_word op) xs ys c) l.records) l (add_arithmetic op xs ys c l) h (go (fold_constant_arithmetic op xs ys c l))
      where
        go : (o : Option (List Bool)) → Leaves K (arithmetic_by o op xs ys c l)
        go (some vs) = constants_kept vs l h
        go none =
            recorded_kept (arithmetic_key (arithmetic_word op) xs ys c) (closed.arithmetic_cell (arithmetic_word op) xs ys c a) (add_nodes (source 10 (count 3 l.records)) 0 (length xs) l)
            (nodes_kept (source 10 (count 3 l.records)) 0 (length xs) (λ i k. closed.arithmetic _ xs a i (omega arith)) l h)

    comparison_kept : (op : ComparisonOp) (xs ys : List ℕ) (l : Netlist) → S xs → K l → Leaves K (comparison op xs ys l)
    unfolding comparison add_comparison
    comparison_kept op xs ys l a h =
        found_kept (find_cell (comparison_key (comparison_word op) xs ys) l.records) l (add_comparison op xs ys l) h
        (recorded_kept (comparison_key (comparison_word op) xs ys) (closed.comparison_cell (comparison_word op) xs ys a) (add_nodes (source 11 (count 4 l.records)) 0 1 l)
        (nodes_kept (source 11 (count 4 l.records)) 0 1 (λ i k. only_output _ i (omega arith)) l h))

    pub unary_kept : (op : Unary) (xs : List ℕ) (l : Netlist) → K l → Leaves K (lower_unary op xs l)
    unfolding lower_unary
    unary_kept R.BitNot xs l h = nots_kept xs l h
    unary_kept R.LogicNot xs l h = ends_then (reduce_tree OrGate false xs l) (tree_kept OrGate false xs l h) (λ r k. nots_kept r.0 r.1 k)
    unary_kept R.ReduceOr xs l h = tree_kept OrGate false xs l h
    unary_kept R.ReduceAnd xs l h = tree_kept AndGate true xs l h
    unary_kept R.ReduceXor xs l h = tree_kept XorGate false xs l h

    pub binary_kept : (op : Binary) (xs ys : List ℕ) (l : Netlist) → S xs → S ys → K l → Leaves K (lower_binary op xs ys l)
    unfolding lower_binary
    binary_kept R.And xs ys l a b h = gates_kept AndGate xs ys l h
    binary_kept R.Or xs ys l a b h = gates_kept OrGate xs ys l h
    binary_kept R.Xor xs ys l a b h = gates_kept XorGate xs ys l h
    binary_kept R.Add xs ys l a b h = arithmetic_kept _ xs ys none l a h
    binary_kept R.Sub xs ys l a b h = arithmetic_kept _ xs ys none l a h
    binary_kept R.Mul xs ys l a b h = arithmetic_kept _ xs ys none l a h
    binary_kept R.Equal xs ys l a b h = equals_kept xs ys l h
    binary_kept R.NotEqual xs ys l a b h = ends_then (equal_words xs ys l) (equals_kept xs ys l h) (λ r k. nots_kept r.0 r.1 k)
    binary_kept R.LessU xs ys l a b h = comparison_kept _ xs ys l a h
    binary_kept R.LessS xs ys l a b h = comparison_kept _ xs ys l a h
    binary_kept R.LessEqU xs ys l a b h = comparison_kept _ xs ys l a h
    binary_kept R.LessEqS xs ys l a b h = comparison_kept _ xs ys l a h
    binary_kept R.GreaterU xs ys l a b h = comparison_kept _ ys xs l b h
    binary_kept R.GreaterS xs ys l a b h = comparison_kept _ ys xs l b h
    binary_kept R.GreaterEqU xs ys l a b h = comparison_kept _ ys xs l b h
    binary_kept R.GreaterEqS xs ys l a b h = comparison_kept _ ys xs l b h
    binary_kept R.ShiftL xs ys l a b h = shift_kept _ xs ys l h
    binary_kept R.ShiftR xs ys l a b h = shift_kept _ xs ys l h
    binary_kept R.ShiftA xs ys l a b h = shift_kept _ xs ys l h
