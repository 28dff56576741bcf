-- What is proved of specs/Built: What each call of the builder comes to under limits. Assumes nothing.
use Rattle.std.specs.Prelude.{◌≡◌, refl, Bool, true, false, cond, ◌||◌, List, [], ◌∷◌, ◌++◌, ℕ, zero, suc, ◌+◌, ◌^◌, ◌≤◌, min, max, eqb, leb, ltb, length}
use Rattle.std.proofs.Common.{sym, ap, arith, le_refl, ltb-true, ltb-false, leb-true, leb-false}
use Rattle.std.proofs.Math.Option.{Option, none, some}
use Rattle.spec_rtl.specs.Rtl as R
use Rattle.spec_rtl.specs.Rtl.{Unary, Binary}
use Rattle.spec_model.specs.Words.{absent, Node, node, source, gate, Netlist, bit_word, used, count, arithmetic_key, comparison_key}
use Rattle.spec_model.specs.Builder.{refused, done, and_then, Made, add_node, push, node_for_net, constant_value, is_constant, find, or_made, add_cached, add_constant, not_by, add_not, add_and, add_or, add_xor, mux_by, add_mux, also, each, both, from, add_nodes, add_recorded, add_input_port, add_output_port, ArithmeticOp, ComparisonOp, arithmetic_word, comparison_word, fold_constant_arithmetic, arithmetic_by, add_arithmetic, add_comparison}
use Rattle.spec_model.specs.WordCells.{find_cell, arithmetic, comparison}
use Rattle.spec_model.specs.Ranges.{Gate, AndGate, OrGate, XorGate}
use Rattle.spec_model.specs.Lowering.{add_gate, level, levels, reduce_tree, add_equal, equal_words, Shift, shifted, stages, shift, lower_unary, lower_binary}
use Rattle.spec_answers.specs.Limits.{limited}
use Rattle.law_limits.specs.Bounds.{lists, made}
use Rattle.law_limits.proofs.Bounds.{fits, few, short}
use Rattle.law_limits.proofs.Bounds.{Comes, Bounds, bounds_done, bounds_as, bounds_if, bounds_then}
use Rattle.law_limits.specs.Built.{fold_alike, used_more, with_node, with_record}

-- a call that is made at l; such a call at every netlist
abbrev pub At : {A : Type 0} → Netlist → (ℕ → ℕ → Made A) → Type 0
At {A} l F = Bounds (made A) (length l.nodes) (used l.records) F

abbrev pub Builds : {A : Type 0} → (Netlist → Made A) → Type 0
Builds f = (l : Netlist) → At l (λ N P. f (limited N P l))

pub builds_node : (x : Node) → Builds (add_node x)
unfolding add_node
builds_node x l = record {
  end = done (length l.nodes, with_node x l);
  nets = suc (length l.nodes);
  words = used l.records;
  more = omega arith;
  longer = le_refl _;
  ended = (refl, refl);
  comes = λ N P a b. go N P b (ltb (length l.nodes) N) refl;
}
  where
    go : (N P : ℕ) → used l.records ≤ P → (t : Bool) → ltb (length l.nodes) N ≡ t
        → Comes (made ℕ) (done (length l.nodes, with_node x l)) (suc (length l.nodes)) (used l.records) N P
        (cond t (done (length l.nodes, limited N P (with_node x l))) (refused 9 0 0))
    go N P b true e = fits (ltb-true _ _ e) b refl
    go N P b false e = few (omega (arith, ltb-false (length l.nodes) N e)) refl

-- a record pushed on the list
pub push_bounds : (r : List ℕ) (l : Netlist) → Bounds lists (length l.nodes) (used l.records) (λ N P. push r (limited N P l))
unfolding push
push_bounds r l = record {
  end = done (with_record r l);
  nets = length l.nodes;
  words = used l.records + length r;
  more = le_refl _;
  longer = omega arith;
  ended = (refl, sym (used_more l.records r));
  comes = λ N P a b. go N P a (leb (used l.records + length r) P) refl;
}
  where
    go : (N P : ℕ) → length l.nodes ≤ N → (t : Bool) → leb (used l.records + length r) P ≡ t
        → Comes lists (done (with_record r l)) (length l.nodes) (used l.records + length r) N P
        (cond t (done (limited N P (with_record r l))) (refused 10 0 0))
    go N P a true e = fits a (leb-true _ _ e) refl
    go N P a false e = short (leb-false _ _ e) refl

-- ---- joining ----

pub builds_done : {A : Type 0} (a : A) → Builds (λ l. done (a, l))
builds_done {A} a l = bounds_done (made A) (a, l)

pub builds_if : {A : Type 0} {n p : ℕ} {F G : ℕ → ℕ → Made A} (t : Bool) → Bounds (made A) n p F → Bounds (made A) n p G
    → Bounds (made A) n p (λ N P. cond t (F N P) (G N P))
builds_if {A} t f g = bounds_if (made A) t f g

pub builds_then : {A B : Type 0} (f : Netlist → Made A) (k : A → Netlist → Made B) → Builds f → ((a : A) → Builds (k a)) → Builds (λ l. and_then (f l) (λ (a, l₁). k a l₁))
builds_then {A} {B} f k b h l = bounds_then (made A) (made B) (λ N P. f (limited N P l)) (λ (a, l₁). k a l₁) (b l) (λ r. h r.0 r.1)

builds_also : (n : ℕ) (f : Netlist → Made (List ℕ)) → Builds f → Builds (λ l. also n (f l))
builds_also n f b = builds_then f (λ ns l. done (n ∷ ns, l)) b (λ ns. builds_done (n ∷ ns))

pub builds_each : {A : Type 0} (f : A → Netlist → Made ℕ) → ((a : A) → Builds (f a)) → (xs : List A) → Builds (each f xs)
unfolding each
builds_each f w [] l = builds_done [] l
builds_each f w (x ∷ xs) l = builds_then (f x) (λ n l₁. also n (each f xs l₁)) (w x) (λ n. builds_also n (each f xs) (builds_each f w xs)) l

pub builds_both : (f : ℕ → ℕ → Netlist → Made ℕ) → ((a b : ℕ) → Builds (f a b)) → (xs ys : List ℕ) → Builds (both f xs ys)
unfolding both
builds_both f w [] ys l = builds_done [] l
builds_both f w (x ∷ xs) [] l = builds_done [] l
builds_both f w (x ∷ xs) (y ∷ ys) l = builds_then (f x y) (λ n l₁. also n (both f xs ys l₁)) (w x y) (λ n. builds_also n (both f xs ys) (builds_both f w xs ys)) l

pub builds_nodes : (x : ℕ → Node) (b w : ℕ) → Builds (add_nodes x b w)
unfolding add_nodes
builds_nodes x b w l = builds_each (λ i. add_node (x i)) (λ i. builds_node (x i)) (from b w) l

builds_recorded : (r : List ℕ) (f : Netlist → Made (List ℕ)) → Builds f → Builds (λ l. add_recorded r (f l))
unfolding add_recorded
builds_recorded r f b l =
    builds_then f (λ ns l₁. and_then (push (r ++ ns) l₁) (λ l₂. done (ns, l₂))) b
    (λ ns l₁. bounds_then lists (made (List ℕ)) (λ N P. push (r ++ ns) (limited N P l₁)) (λ l₂. done (ns, l₂)) (push_bounds (r ++ ns) l₁) (builds_done ns)) l

pub builds_input : (s w : ℕ) → Builds (add_input_port s w)
unfolding add_input_port
builds_input s w l = builds_recorded (0 ∷ s ∷ w ∷ []) (add_nodes (source 0 s) 0 w) (builds_nodes (source 0 s) 0 w) l

pub builds_output : (s : ℕ) (xs : List ℕ) → Builds (add_output_port s xs)
unfolding add_output_port
builds_output s xs l =
    builds_recorded (0 ∷ s ∷ length xs ∷ []) (both (λ b x. add_node (node 8 s b x absent absent)) (from 0 (length xs)) xs)
    (builds_both (λ b x. add_node (node 8 s b x absent absent)) (λ b x. builds_node (node 8 s b x absent absent)) (from 0 (length xs)) xs) l

-- ---- gates ----

builds_found : {A : Type 0} (o : Option A) (f : Netlist → Made A) → Builds f → Builds (λ l. or_made o l (f l))
builds_found none f b l = b l
builds_found (some a) f b l = builds_done a l

builds_cached : (x : Node) → Builds (add_cached x)
unfolding add_cached
builds_cached x l = builds_found (find x l.nodes) (add_node x) (builds_node x) l

pub builds_constant : (v : Bool) → Builds (add_constant v)
unfolding add_constant
builds_constant v l = builds_cached (node 1 (bit_word v) absent absent absent absent) l

pub builds_not : (n : ℕ) → Builds (add_not n)
unfolding add_not constant_value node_for_net
builds_not n l = go (constant_value l n)
  where
    go : (o : Option Bool) → At l (λ N P. not_by o (node_for_net l n) n (limited N P l))
    go (some v) = builds_constant _ l
    go none = builds_if (eqb (node_for_net l n).kind 5) (builds_done _ l) (builds_cached (gate 5 n absent absent) l)

builds_and : (a b : ℕ) → Builds (add_and a b)
unfolding add_and constant_value node_for_net
builds_and a b l =
    builds_if (eqb a b) (builds_done a l)
    (builds_if (is_constant false l a || is_constant false l b) (builds_constant false l)
    (builds_if (is_constant true l a) (builds_done b l)
    (builds_if (is_constant true l b) (builds_done a l) (builds_cached (gate 2 (min a b) (max a b) absent) l))))

builds_or : (a b : ℕ) → Builds (add_or a b)
unfolding add_or constant_value node_for_net
builds_or a b l =
    builds_if (eqb a b) (builds_done a l)
    (builds_if (is_constant true l a || is_constant true l b) (builds_constant true l)
    (builds_if (is_constant false l a) (builds_done b l)
    (builds_if (is_constant false l b) (builds_done a l) (builds_cached (gate 3 (min a b) (max a b) absent) l))))

builds_xor : (a b : ℕ) → Builds (add_xor a b)
unfolding add_xor constant_value node_for_net
builds_xor a b l =
    builds_if (eqb a b) (builds_constant false l)
    (builds_if (is_constant false l a) (builds_done b l)
    (builds_if (is_constant false l b) (builds_done a l)
    (builds_if (is_constant true l a) (builds_not b l)
    (builds_if (is_constant true l b) (builds_not a l) (builds_cached (gate 4 (min a b) (max a b) absent) l)))))

pub builds_mux : (c t e : ℕ) → Builds (add_mux c t e)
unfolding add_mux constant_value node_for_net
builds_mux c t e l = builds_if (eqb t e) (builds_done t l) (go (constant_value l c))
  where
    go : (o : Option Bool) → At l (λ N P. mux_by o (node_for_net l c) c t e (limited N P l))
    go (some v) = builds_done (cond v t e) l
    go none = builds_if (eqb (node_for_net l c).kind 5) (builds_cached (gate 6 (node_for_net l c).in0 e t) l) (builds_cached (gate 6 c t e) l)

pub builds_gate : (g : Gate) (a b : ℕ) → Builds (add_gate g a b)
builds_gate AndGate a b l = builds_and a b l
builds_gate OrGate a b l = builds_or a b l
builds_gate XorGate a b l = builds_xor a b l

pub builds_constants : (vs : List Bool) → Builds (each add_constant vs)
builds_constants vs = builds_each add_constant builds_constant vs

pub builds_nots : (ns : List ℕ) → Builds (each add_not ns)
builds_nots ns = builds_each add_not builds_not ns

pub builds_gates : (g : Gate) (xs ys : List ℕ) → Builds (both (add_gate g) xs ys)
builds_gates g xs ys = builds_both (add_gate g) (builds_gate g) xs ys

pub builds_muxes : (c : ℕ) (xs ys : List ℕ) → Builds (both (add_mux c) xs ys)
builds_muxes c xs ys = builds_both (add_mux c) (builds_mux c) xs ys

-- ---- trees, equality, shifts ----

builds_level : (g : Gate) (xs : List ℕ) → Builds (level g xs)
unfolding level
builds_level g [] l = builds_done [] l
builds_level g (x ∷ []) l = builds_done (x ∷ []) l
builds_level g (x ∷ y ∷ xs) l = builds_then (add_gate g x y) (λ n l₁. also n (level g xs l₁)) (builds_gate g x y) (λ n. builds_also n (level g xs) (builds_level g xs)) l

builds_levels : (f : ℕ) (g : Gate) (xs : List ℕ) → Builds (levels f g xs)
unfolding levels
builds_levels zero g xs l = builds_done xs l
builds_levels (suc f) g xs l = go (ltb 1 (length xs)) (builds_levels f g)
  where
    go : (t : Bool) → ((ys : List ℕ) → Builds (levels f g ys))
        → At {A = List ℕ} l (λ N P. elim t [ true ↦ and_then (level g xs (limited N P l)) (λ (ys, l₁). levels f g ys l₁) | false ↦ done (xs, limited N P l) ])
    go true ih = builds_then (level g xs) (levels f g) (builds_level g xs) ih l
    go false ih = builds_done xs l

builds_tree : (g : Gate) (v : Bool) (xs : List ℕ) → Builds (reduce_tree g v xs)
unfolding reduce_tree
builds_tree g v [] l = builds_constants (v ∷ []) l
builds_tree g v (x ∷ xs) l = builds_levels (length xs) g (x ∷ xs) l

builds_equal : (x y : ℕ) → Builds (add_equal x y)
unfolding add_equal
builds_equal x y l = builds_then (add_xor x y) add_not (builds_xor x y) builds_not l

builds_equals : (xs ys : List ℕ) → Builds (equal_words xs ys)
unfolding equal_words
builds_equals xs ys l = builds_then (both add_equal xs ys) (reduce_tree AndGate true) (builds_both add_equal builds_equal xs ys) (builds_tree AndGate true) l

builds_stages : (s : Shift) (z k : ℕ) (ss r : List ℕ) → Builds (stages s z k ss r)
unfolding stages
builds_stages s z k [] r l = builds_done r l
builds_stages s z k (x ∷ ss) r l =
    builds_then (both (add_mux x) (shifted s z (min (2 ^ k) (length r)) r) r) (stages s z (suc k) ss) (builds_muxes x (shifted s z (min (2 ^ k) (length r)) r) r)
    (builds_stages s z (suc k) ss) l

builds_shift : (s : Shift) (xs ys : List ℕ) → Builds (shift s xs ys)
unfolding shift
builds_shift s xs ys l = builds_then (add_constant false) (λ z. stages s z 0 ys xs) (builds_constant false) (λ z. builds_stages s z 0 ys xs) l

builds_cell : (op : ArithmeticOp) (xs ys : List ℕ) (c : Option ℕ) → Builds (add_arithmetic op xs ys c)
unfolding add_arithmetic
builds_cell op xs ys c l =
    bounds_as (made (List ℕ)) (go (fold_constant_arithmetic op xs ys c l)) (λ N P. ap (λ o. arithmetic_by o op xs ys c (limited N P l)) (sym (fold_alike N P op xs ys c l)))
  where
    go : (o : Option (List Bool)) → At l (λ N P. arithmetic_by o op xs ys c (limited N P l))
    go (some vs) = builds_constants vs l
    go none =
        builds_recorded (arithmetic_key (arithmetic_word op) xs ys c) (add_nodes (source 10 (count 3 l.records)) 0 (length xs))
        (builds_nodes (source 10 (count 3 l.records)) 0 (length xs)) l

pub builds_arithmetic : (op : ArithmeticOp) (xs ys : List ℕ) (c : Option ℕ) → Builds (arithmetic op xs ys c)
unfolding arithmetic
builds_arithmetic op xs ys c l = builds_found (find_cell (arithmetic_key (arithmetic_word op) xs ys c) l.records) (add_arithmetic op xs ys c) (builds_cell op xs ys c) l

builds_comparison : (op : ComparisonOp) (xs ys : List ℕ) → Builds (comparison op xs ys)
unfolding comparison add_comparison
builds_comparison op xs ys l =
    builds_found (find_cell (comparison_key (comparison_word op) xs ys) l.records) (add_comparison op xs ys)
    (λ l₁. builds_recorded (comparison_key (comparison_word op) xs ys) (add_nodes (source 11 (count 4 l₁.records)) 0 1) (builds_nodes (source 11 (count 4 l₁.records)) 0 1) l₁) l

then_nots : (f : Netlist → Made (List ℕ)) → Builds f → Builds (λ l. and_then (f l) (λ (r, l₁). each add_not r l₁))
then_nots f b = builds_then f (each add_not) b builds_nots

pub builds_unary : (op : Unary) (xs : List ℕ) → Builds (lower_unary op xs)
unfolding lower_unary
builds_unary R.BitNot xs l = builds_nots xs l
builds_unary R.LogicNot xs l = then_nots (reduce_tree OrGate false xs) (builds_tree OrGate false xs) l
builds_unary R.ReduceOr xs l = builds_tree OrGate false xs l
builds_unary R.ReduceAnd xs l = builds_tree AndGate true xs l
builds_unary R.ReduceXor xs l = builds_tree XorGate false xs l

pub builds_binary : (op : Binary) (xs ys : List ℕ) → Builds (lower_binary op xs ys)
unfolding lower_binary
builds_binary R.And xs ys l = builds_gates AndGate xs ys l
builds_binary R.Or xs ys l = builds_gates OrGate xs ys l
builds_binary R.Xor xs ys l = builds_gates XorGate xs ys l
builds_binary R.Add xs ys l = builds_arithmetic _ xs ys none l
builds_binary R.Sub xs ys l = builds_arithmetic _ xs ys none l
builds_binary R.Mul xs ys l = builds_arithmetic _ xs ys none l
builds_binary R.Equal xs ys l = builds_equals xs ys l
builds_binary R.NotEqual xs ys l = then_nots (equal_words xs ys) (builds_equals xs ys) l
builds_binary R.LessU xs ys l = builds_comparison _ xs ys l
builds_binary R.LessS xs ys l = builds_comparison _ xs ys l
builds_binary R.LessEqU xs ys l = builds_comparison _ xs ys l
builds_binary R.LessEqS xs ys l = builds_comparison _ xs ys l
builds_binary R.GreaterU xs ys l = builds_comparison _ ys xs l
builds_binary R.GreaterS xs ys l = builds_comparison _ ys xs l
builds_binary R.GreaterEqU xs ys l = builds_comparison _ ys xs l
builds_binary R.GreaterEqS xs ys l = builds_comparison _ ys xs l
builds_binary R.ShiftL xs ys l = builds_shift _ xs ys l
builds_binary R.ShiftR xs ys l = builds_shift _ xs ys l
builds_binary R.ShiftA xs ys l = builds_shift _ xs ys l
