-- The builder refuses for want of room only: 9 or 10. Structural, for every netlist. Assumes nothing.
use Rattle.std.specs.Prelude.{◌≡◌, Bool, true, false, not, cond, ◌||◌, List, [], ◌∷◌, ◌++◌, ℕ, zero, suc, ◌+◌, ◌-◌, ◌^◌, min, eqb, leb, ltb, length, take, drop}
use Rattle.std.proofs.Common.{subst}
use Rattle.std.proofs.Math.Option.{Option, none, some}
use Rattle.spec_rtl.specs.Word.{bits}
use Rattle.spec_rtl.specs.Rtl as R
use Rattle.spec_rtl.specs.Rtl.{Expr, Kind, Unary, Binary}
use Rattle.spec_model.specs.Words.{absent, Node, node, gate, Netlist, used, arithmetic_key, comparison_key}
use Rattle.spec_model.specs.Builder as B
use Rattle.spec_model.specs.Builder.{Out, refused, done, and_then, Made, add_node, push, node_for_net, constant_value, is_constant, find, or_made, add_cached, add_constant, not_by, add_not, add_and, add_or, add_xor, mux_by, add_mux, each, both, from, add_nodes, add_recorded, add_output_port, fold_constant_arithmetic, arithmetic_by, add_arithmetic, add_comparison}
use Rattle.law_nets.specs.Run.{Limit, nets, list}
use Rattle.spec_model.specs.WordCells.{find_cell, arithmetic, comparison}
use Rattle.spec_model.specs.Ranges.{Gate, AndGate, OrGate, XorGate, expr_at, width_at, class_of, adder_width}
use Rattle.spec_model.specs.Lowering as L
use Rattle.spec_model.specs.Lowering.{State, add_gate, level, levels, reduce_tree, add_equal, equal_words, Shift, stages, shift, shifted, lower_unary, lower_binary, Operands, operands_of, truncated, resized, build_operands, build_binary, is_add, build_mux, selected, whole_net, whole_nets, range_nets, build_kind, build_whole, range_gate, gate_of, is_bit_not, range_kind, build_range}

abbrev pub Room : {A : Type 0} → Out A → Type 0
Room (refused c x y) = Limit c x y
Room (done a) = Unit {0}

pub record Roomy {A : Type 0} (o : Out A) : Type 0 where
  pub room : Room o

here : {A : Type 0} {a : A} → Roomy (done a)
here = record { room = tt }

pub refused_by_law : {A : Type 0} {o : Out A} → Roomy o → (c x y : ℕ) → o ≡ refused c x y → Limit c x y
refused_by_law r c x y e = subst (λ o. Room o) e r.room

bind : {A B : Type 0} (o : Out A) (k : A → Out B) → Roomy o → ((a : A) → Roomy (k a)) → Roomy (and_then o k)
bind (refused c x y) k r h = record { room = r.room }
bind (done a) k r h = h a

either : {A : Type 0} (t : Bool) {x y : Out A} → Roomy x → Roomy y → Roomy (cond t x y)
either true a b = a
either false a b = b

pub node_room : (x : Node) (l : Netlist) → Roomy (add_node x l)
unfolding add_node
node_room x l = either (ltb (length l.nodes) l.max_nets) here (record { room = nets })

pub push_room : (r : List ℕ) (l : Netlist) → Roomy (push r l)
unfolding push
push_room r l = either (leb (used l.records + length r) l.max_list) here (record { room = list })

made : {A : Type 0} (o : Option A) (l : Netlist) {r : Made A} → Roomy r → Roomy (or_made o l r)
made (some a) l h = here
made none l h = h

cached_room : (x : Node) (l : Netlist) → Roomy (add_cached x l)
unfolding add_cached
cached_room x l = made (find x l.nodes) l (node_room x l)

constant_room : (v : Bool) (l : Netlist) → Roomy (add_constant v l)
unfolding add_constant
constant_room v l = cached_room _ l

not_room : (n : ℕ) (l : Netlist) → Roomy (add_not n l)
unfolding add_not
not_room n l = go (constant_value l n)
  where
    go : (o : Option Bool) → Roomy (not_by o (node_for_net l n) n l)
    go (some v) = constant_room (not v) l
    go none = either (eqb (node_for_net l n).kind 5) here (cached_room (gate 5 n absent absent) l)

gate_room : (g : Gate) (a b : ℕ) (l : Netlist) → Roomy (add_gate g a b l)
unfolding add_and add_or add_xor
gate_room AndGate a b l =
    either (eqb a b) here (either (is_constant false l a || is_constant false l b) (constant_room false l) (either (is_constant true l a) here (either (is_constant true l b) here (cached_room _ l))))
gate_room OrGate a b l =
    either (eqb a b) here (either (is_constant true l a || is_constant true l b) (constant_room true l) (either (is_constant false l a) here (either (is_constant false l b) here (cached_room _ l))))
gate_room XorGate a b l =
    either (eqb a b) (constant_room false l) (either (is_constant false l a) here (either (is_constant false l b) here
    (either (is_constant true l a) (not_room b l) (either (is_constant true l b) (not_room a l) (cached_room _ l)))))

mux_room : (c t e : ℕ) (l : Netlist) → Roomy (add_mux c t e l)
unfolding add_mux
mux_room c t e l = either (eqb t e) here (go (constant_value l c))
  where
    go : (o : Option Bool) → Roomy (mux_by o (node_for_net l c) c t e l)
    go (some v) = here
    go none = either (eqb (node_for_net l c).kind 5) (cached_room _ l) (cached_room _ l)

each_room : {A : Type 0} (f : A → Netlist → Made ℕ) → ((a : A) (l : Netlist) → Roomy (f a l)) → (xs : List A) (l : Netlist) → Roomy (each f xs l)
unfolding each
each_room f h [] l = here
each_room f h (x ∷ xs) l = bind (f x l) _ (h x l) (λ r. bind (each f xs r.1) _ (each_room f h xs r.1) (λ q. here))

pub both_room : (f : ℕ → ℕ → Netlist → Made ℕ) → ((a b : ℕ) (l : Netlist) → Roomy (f a b l)) → (xs ys : List ℕ) (l : Netlist) → Roomy (both f xs ys l)
unfolding both
both_room f h [] ys l = here
both_room f h (x ∷ xs) [] l = here
both_room f h (x ∷ xs) (y ∷ ys) l = bind (f x y l) _ (h x y l) (λ r. bind (both f xs ys r.1) _ (both_room f h xs ys r.1) (λ q. here))

pub recorded_room : (r : List ℕ) (o : Made (List ℕ)) → Roomy o → Roomy (add_recorded r o)
unfolding add_recorded
recorded_room r o h = bind o _ h (λ q. bind (push (r ++ q.0) q.1) _ (push_room (r ++ q.0) q.1) (λ z. here))

pub nodes_room : (x : ℕ → Node) (b w : ℕ) (l : Netlist) → Roomy (add_nodes x b w l)
unfolding add_nodes
nodes_room x b w l = each_room (λ i. add_node (x i)) (λ i l. node_room (x i) l) (from b w) l

pub output_room : (s : ℕ) (xs : List ℕ) (l : Netlist) → Roomy (add_output_port s xs l)
unfolding add_output_port
output_room s xs l =
    recorded_room (0 ∷ s ∷ length xs ∷ []) (both (λ b x. add_node (node 8 s b x absent absent)) (from 0 (length xs)) xs l) (both_room _ (λ b x l. node_room (node 8 s b x absent absent) l) (from 0 (length xs)) xs l)

level_room : (g : Gate) (xs : List ℕ) (l : Netlist) → Roomy (level g xs l)
unfolding level
level_room g [] l = here
level_room g (x ∷ []) l = here
level_room g (x ∷ y ∷ xs) l = bind (add_gate g x y l) _ (gate_room g x y l) (λ r. bind (level g xs r.1) _ (level_room g xs r.1) (λ q. here))

levels_room : (f : ℕ) (g : Gate) (xs : List ℕ) (l : Netlist) → Roomy (levels f g xs l)
unfolding levels
levels_room zero g xs l = here
levels_room (suc f) g xs l = go (ltb 1 (length xs)) (bind (level g xs l) (λ (ys, l₁). levels f g ys l₁) (level_room g xs l) (λ r. levels_room f g r.0 r.1))
  where
    go : (t : Bool) → Roomy (and_then (level g xs l) (λ (ys, l₁). levels f g ys l₁))
        → Roomy {A = List ℕ × Netlist} (elim t [ true ↦ and_then (level g xs l) (λ (ys, l₁). levels f g ys l₁) | false ↦ done (xs, l) ])
    go true h = h
    go false h = here

tree_room : (g : Gate) (v : Bool) (xs : List ℕ) (l : Netlist) → Roomy (reduce_tree g v xs l)
unfolding reduce_tree
tree_room g v [] l = each_room add_constant constant_room (v ∷ []) l
tree_room g v (x ∷ xs) l = levels_room (length xs) g (x ∷ xs) l

equal_room : (xs ys : List ℕ) (l : Netlist) → Roomy (equal_words xs ys l)
unfolding equal_words add_equal
equal_room xs ys l =
    bind (both add_equal xs ys l) _
    (both_room add_equal (λ a b k. bind (add_xor a b k) _ (gate_room XorGate a b k) (λ r. not_room r.0 r.1)) xs ys l) (λ r. tree_room AndGate true r.0 r.1)

stages_room : (h : Shift) (z k : ℕ) (ss r : List ℕ) (l : Netlist) → Roomy (stages h z k ss r l)
unfolding stages
stages_room h z k [] r l = here
stages_room h z k (s ∷ ss) r l =
    bind (both (add_mux s) (shifted h z (min (2 ^ k) (length r)) r) r l) _ (both_room (add_mux s) (mux_room s) (shifted h z (min (2 ^ k) (length r)) r) r l)
    (λ q. stages_room h z (suc k) ss q.0 q.1)

shift_room : (h : Shift) (xs ys : List ℕ) (l : Netlist) → Roomy (shift h xs ys l)
unfolding shift
shift_room h xs ys l = bind (add_constant false l) _ (constant_room false l) (λ r. stages_room h r.0 0 ys xs r.1)

arithmetic_room : (op : B.ArithmeticOp) (xs ys : List ℕ) (c : Option ℕ) (l : Netlist) → Roomy (arithmetic op xs ys c l)
unfolding arithmetic add_arithmetic
arithmetic_room op xs ys c l = made (find_cell (arithmetic_key (B.arithmetic_word op) xs ys c) l.records) l (go (fold_constant_arithmetic op xs ys c l))
  where
    go : (o : Option (List Bool)) → Roomy (arithmetic_by o op xs ys c l)
    go (some vs) = each_room add_constant constant_room vs l
    go none = recorded_room _ _ (nodes_room _ 0 (length xs) l)

comparison_room : (op : B.ComparisonOp) (xs ys : List ℕ) (l : Netlist) → Roomy (comparison op xs ys l)
unfolding comparison add_comparison
comparison_room op xs ys l = made (find_cell (comparison_key (B.comparison_word op) xs ys) l.records) l (recorded_room _ _ (nodes_room _ 0 1 l))

unary_room : (op : Unary) (xs : List ℕ) (l : Netlist) → Roomy (lower_unary op xs l)
unfolding lower_unary
unary_room R.BitNot xs l = each_room add_not not_room xs l
unary_room R.LogicNot xs l = bind (reduce_tree OrGate false xs l) _ (tree_room OrGate false xs l) (λ r. each_room add_not not_room r.0 r.1)
unary_room R.ReduceOr xs l = tree_room OrGate false xs l
unary_room R.ReduceAnd xs l = tree_room AndGate true xs l
unary_room R.ReduceXor xs l = tree_room XorGate false xs l

binary_room : (op : Binary) (xs ys : List ℕ) (l : Netlist) → Roomy (lower_binary op xs ys l)
unfolding lower_binary
binary_room R.And xs ys l = both_room add_and (gate_room AndGate) xs ys l
binary_room R.Or xs ys l = both_room add_or (gate_room OrGate) xs ys l
binary_room R.Xor xs ys l = both_room add_xor (gate_room XorGate) xs ys l
binary_room R.Add xs ys l = arithmetic_room B.Add xs ys none l
binary_room R.Sub xs ys l = arithmetic_room B.Subtract xs ys none l
binary_room R.Mul xs ys l = arithmetic_room B.Multiply xs ys none l
binary_room R.Equal xs ys l = equal_room xs ys l
binary_room R.NotEqual xs ys l = bind (equal_words xs ys l) _ (equal_room xs ys l) (λ r. each_room add_not not_room r.0 r.1)
binary_room R.LessU xs ys l = comparison_room B.LessThanUnsigned xs ys l
binary_room R.LessS xs ys l = comparison_room B.LessThanSigned xs ys l
binary_room R.LessEqU xs ys l = comparison_room B.LessOrEqualUnsigned xs ys l
binary_room R.LessEqS xs ys l = comparison_room B.LessOrEqualSigned xs ys l
binary_room R.GreaterU xs ys l = comparison_room B.LessThanUnsigned ys xs l
binary_room R.GreaterS xs ys l = comparison_room B.LessThanSigned ys xs l
binary_room R.GreaterEqU xs ys l = comparison_room B.LessOrEqualUnsigned ys xs l
binary_room R.GreaterEqS xs ys l = comparison_room B.LessOrEqualSigned ys xs l
binary_room R.ShiftL xs ys l = shift_room L.LeftS xs ys l
binary_room R.ShiftR xs ys l = shift_room L.RightS xs ys l
binary_room R.ShiftA xs ys l = shift_room L.ArithmeticS xs ys l

-- ---- what the walk builds, with either flag ----

resized_room : (k : Option ℕ) (w : ℕ) (o : Made (List ℕ)) → Roomy o → Roomy (resized k w o)
resized_room none w o h = h
resized_room (some k) w o h = bind o _ h (λ r. bind (add_constant false r.1) _ (constant_room false r.1) (λ q. here))

operands_room : (op : Binary) (k : Option ℕ) (st : State) (o : Operands) → Roomy (build_operands op k st o)
operands_room op k st o = go o.carry
  where
    go : (c : Option ℕ) → Roomy {A = List ℕ × Netlist} (elim c [
      | none ↦ lower_binary op (truncated k (whole_nets st o.lhs)) (truncated k (whole_nets st o.rhs)) st.netlist
      | some d ↦ arithmetic B.Add (truncated k (whole_nets st o.lhs)) (truncated k (whole_nets st o.rhs)) (some (whole_net st d 0)) st.netlist
    ])
    go none = binary_room op _ _ st.netlist
    go (some d) = arithmetic_room B.Add _ _ (some (whole_net st d 0)) st.netlist

bin_room : (xs : List Expr) (st : State) (e w : ℕ) (op : Binary) (a b : ℕ) → Roomy (build_binary xs st e w op a b)
unfolding build_binary
bin_room xs st e w op a b = resized_room (cond (is_add (class_of op)) (adder_width xs e) none) w _ (operands_room op (cond (is_add (class_of op)) (adder_width xs e) none) st (operands_of xs op a b))

built_mux : (o : Option Bool) (c : ℕ) (ts es : List ℕ) (l : Netlist) → Roomy (build_mux o c ts es l)
built_mux (some v) c ts es l = here
built_mux none c ts es l = both_room (add_mux c) (mux_room c) ts es l

pub whole_room : (xs : List Expr) (ob : Bool) (st : State) (e : ℕ) → Roomy (build_whole xs ob st e)
unfolding build_whole
whole_room xs ob st e = go (expr_at xs e).kind
  where
    go : (k : Kind) → Roomy (build_kind xs ob st e (width_at xs e) k)
    go (R.Signal s lsb) = here
    go (R.Constant n) = each_room add_constant constant_room (bits (width_at xs e) n) st.netlist
    go (R.Un op a) = unary_room op (whole_nets st a) st.netlist
    go (R.Bin op a b) = bin_room xs st e (width_at xs e) op a b
    go (R.Mux c t f) = built_mux (selected ob st c) (whole_net st c 0) (whole_nets st t) (whole_nets st f) st.netlist
    go (R.Concat ps) = here
    go (R.Slice a lsb) = here

pub range_room : (xs : List Expr) (ob : Bool) (st : State) (e lsb w : ℕ) → Roomy (build_range xs ob st e lsb w)
unfolding build_range
range_room xs ob st e lsb w = go (expr_at xs e).kind
  where
    by_gate : (o : Option Gate) (a b : ℕ) → Roomy (range_gate o st e a b lsb w)
    by_gate none a b = here
    by_gate (some g) a b = both_room (add_gate g) (gate_room g) (range_nets st a lsb w) (range_nets st b lsb w) st.netlist

    go : (k : Kind) → Roomy (range_kind xs ob st e lsb w (width_at xs e) k)
    go (R.Signal s l) = here
    go (R.Constant n) = each_room add_constant constant_room (take w (drop lsb (bits (width_at xs e) n))) st.netlist
    go (R.Un op a) = either (is_bit_not op) (each_room add_not not_room (range_nets st a lsb w) st.netlist) here
    go (R.Bin op a b) = by_gate (gate_of (class_of op)) a b
    go (R.Mux c t f) = built_mux (selected ob st c) (whole_net st c 0) (range_nets st t lsb w) (range_nets st f lsb w) st.netlist
    go (R.Concat ps) = here
    go (R.Slice a l) = here
