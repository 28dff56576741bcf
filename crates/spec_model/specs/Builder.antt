-- struo-ir's `Netlist`: nodes and gates that fold and share, cells. Assumes nothing.
use Rattle.std.specs.Prelude.{Bool, true, false, not, cond, ◌&&◌, ◌||◌, List, [], ◌∷◌, ◌++◌, ℕ, zero, suc, ◌+◌, ◌-◌, min, max, eqb, leb, ltb, length, get_or}
use Rattle.std.proofs.Math.Option.{Option, none, some}
use Rattle.spec_rtl.specs.Ops.{add_c, sub_w, mul_w}
use Rattle.spec_model.specs.Words.{absent, Node, node, source, gate, Netlist, bit_word, used, count, arithmetic_key, comparison_key}

-- an outcome: a refusal with its place, or an answer
pub data Out (A : Type 0) : Type 0 where
  refused : ℕ → ℕ → ℕ → Out A
  done : A → Out A

abbrev pub and_then : {A B : Type 0} → Out A → (A → Out B) → Out B
and_then (refused n x y) k = refused n x y
and_then (done a) k = k a

-- an answer and the netlist after it
abbrev pub Made : Type 0 → Type 0
Made A = Out (A × Netlist)

-- `add_node`
unfoldable pub add_node : Node → Netlist → Made ℕ
add_node x l =
    cond (ltb (length l.nodes) l.max_nets)
    (done (length l.nodes, record { max_nets = l.max_nets; max_list = l.max_list; nodes = x ∷ l.nodes; records = l.records }))
    (refused 9 0 0)

-- a record pushed on the list
unfoldable pub push : List ℕ → Netlist → Out Netlist
push r l =
    cond (leb (used l.records + length r) l.max_list)
    (done (record { max_nets = l.max_nets; max_list = l.max_list; nodes = l.nodes; records = l.records ++ (r ∷ []) }))
    (refused 10 0 0)

-- `node_for_net`; past the end a node of no kind
unfoldable pub node_for_net : Netlist → ℕ → Node
node_for_net l n =
    cond (ltb n (length l.nodes)) (get_or l.nodes (length l.nodes - suc n) (gate absent absent absent absent)) (gate absent absent absent absent)

-- `constant_value`
abbrev pub constant_of : Node → Option Bool
constant_of x = cond (eqb x.kind 1) (some (eqb x.owner 1)) none

unfoldable pub constant_value : Netlist → ℕ → Option Bool
constant_value l n = constant_of (node_for_net l n)

abbrev pub is_value : Bool → Option Bool → Bool
is_value v none = false
is_value true (some b) = b
is_value false (some b) = not b

abbrev pub is_constant : Bool → Netlist → ℕ → Bool
is_constant v l n = is_value v (constant_value l n)

-- `add_cached`: gates are equal by kind, inputs and constant value
unfoldable pub same : Node → Node → Bool
same x y = eqb x.kind y.kind && eqb x.in0 y.in0 && eqb x.in1 y.in1 && eqb x.in2 y.in2 && eqb x.owner y.owner

unfoldable pub find : Node → List Node → Option ℕ
find x [] = none
find x (y ∷ ys) = elim (same x y) [ true ↦ some (length ys) | false ↦ find x ys ]

-- what was found, or what is made
abbrev pub or_made : {A : Type 0} → Option A → Netlist → Made A → Made A
or_made (some a) l r = done (a, l)
or_made none l r = r

unfoldable pub add_cached : Node → Netlist → Made ℕ
add_cached x l = or_made (find x l.nodes) l (add_node x l)

-- `add_constant`
unfoldable pub add_constant : Bool → Netlist → Made ℕ
add_constant v l = add_cached (node 1 (bit_word v) absent absent absent absent) l

-- `add_not`
abbrev pub not_by : Option Bool → Node → ℕ → Netlist → Made ℕ
not_by (some v) x n l = add_constant (not v) l
not_by none x n l = cond (eqb x.kind 5) (done (x.in0, l)) (add_cached (gate 5 n absent absent) l)

unfoldable pub add_not : ℕ → Netlist → Made ℕ
add_not n l = not_by (constant_value l n) (node_for_net l n) n l

-- `add_and`
unfoldable pub add_and : ℕ → ℕ → Netlist → Made ℕ
add_and a b l =
    cond (eqb a b) (done (a, l))
    (cond (is_constant false l a || is_constant false l b) (add_constant false l)
    (cond (is_constant true l a) (done (b, l))
    (cond (is_constant true l b) (done (a, l))
    (add_cached (gate 2 (min a b) (max a b) absent) l))))

-- `add_or`
unfoldable pub add_or : ℕ → ℕ → Netlist → Made ℕ
add_or a b l =
    cond (eqb a b) (done (a, l))
    (cond (is_constant true l a || is_constant true l b) (add_constant true l)
    (cond (is_constant false l a) (done (b, l))
    (cond (is_constant false l b) (done (a, l))
    (add_cached (gate 3 (min a b) (max a b) absent) l))))

-- `add_xor`
unfoldable pub add_xor : ℕ → ℕ → Netlist → Made ℕ
add_xor a b l =
    cond (eqb a b) (add_constant false l)
    (cond (is_constant false l a) (done (b, l))
    (cond (is_constant false l b) (done (a, l))
    (cond (is_constant true l a) (add_not b l)
    (cond (is_constant true l b) (add_not a l)
    (add_cached (gate 4 (min a b) (max a b) absent) l)))))

-- `add_mux`; where the condition is a Not the sides are exchanged (no Not has a Not or a constant as input: once is enough)
abbrev pub mux_by : Option Bool → Node → ℕ → ℕ → ℕ → Netlist → Made ℕ
mux_by (some v) x c t e l = done (cond v t e, l)
mux_by none x c t e l = cond (eqb x.kind 5) (add_cached (gate 6 x.in0 e t) l) (add_cached (gate 6 c t e) l)

unfoldable pub add_mux : ℕ → ℕ → ℕ → Netlist → Made ℕ
add_mux c t e l = cond (eqb t e) (done (t, l)) (mux_by (constant_value l c) (node_for_net l c) c t e l)

-- ---- many nets ----

abbrev pub also : ℕ → Made (List ℕ) → Made (List ℕ)
also n r = and_then r (λ (ns, l). done (n ∷ ns, l))

-- one net for each of a list, or for each pair of two
unfoldable pub each : {A : Type 0} → (A → Netlist → Made ℕ) → List A → Netlist → Made (List ℕ)
each f [] l = done ([], l)
each f (x ∷ xs) l = and_then (f x l) (λ (n, l₁). also n (each f xs l₁))

unfoldable pub both : (ℕ → ℕ → Netlist → Made ℕ) → List ℕ → List ℕ → Netlist → Made (List ℕ)
both f [] ys l = done ([], l)
both f (x ∷ xs) [] l = done ([], l)
both f (x ∷ xs) (y ∷ ys) l = and_then (f x y l) (λ (n, l₁). also n (both f xs ys l₁))

-- b, b + 1, .., w of them
unfoldable pub from : ℕ → ℕ → List ℕ
from b zero = []
from b (suc w) = b ∷ from (suc b) w

-- nodes for bits b, b + 1, .., and a record of r and their nets
unfoldable pub add_nodes : (ℕ → Node) → ℕ → ℕ → Netlist → Made (List ℕ)
add_nodes x b w l = each (λ i. add_node (x i)) (from b w) l

unfoldable pub add_recorded : List ℕ → Made (List ℕ) → Made (List ℕ)
add_recorded r made = and_then made (λ (ns, l). and_then (push (r ++ ns) l) (λ l₁. done (ns, l₁)))

-- `add_input_port`
unfoldable pub add_input_port : ℕ → ℕ → Netlist → Made (List ℕ)
add_input_port s w l = add_recorded (0 ∷ s ∷ w ∷ []) (add_nodes (source 0 s) 0 w l)

-- `add_output_port`
unfoldable pub add_output_port : ℕ → List ℕ → Netlist → Made (List ℕ)
add_output_port s xs l = add_recorded (0 ∷ s ∷ length xs ∷ []) (both (λ b x. add_node (node 8 s b x absent absent)) (from 0 (length xs)) xs l)

-- ---- cells ----

pub data ArithmeticOp : Type 0 where
  Add Subtract Multiply : ArithmeticOp

pub data ComparisonOp : Type 0 where
  LessThanUnsigned LessOrEqualUnsigned LessThanSigned LessOrEqualSigned : ComparisonOp

abbrev pub arithmetic_word : ArithmeticOp → ℕ
arithmetic_word Add = 0
arithmetic_word Subtract = 1
arithmetic_word Multiply = 2

abbrev pub comparison_word : ComparisonOp → ℕ
comparison_word LessThanUnsigned = 0
comparison_word LessOrEqualUnsigned = 1
comparison_word LessThanSigned = 2
comparison_word LessOrEqualSigned = 3

abbrev pub also_value : Option Bool → Option (List Bool) → Option (List Bool)
also_value none vs = none
also_value (some v) none = none
also_value (some v) (some vs) = some (v ∷ vs)

unfoldable pub constant_values : Netlist → List ℕ → Option (List Bool)
constant_values l [] = some []
constant_values l (n ∷ ns) = also_value (constant_value l n) (constant_values l ns)

abbrev pub carry_value : Netlist → Option ℕ → Option Bool
carry_value l none = some false
carry_value l (some n) = constant_value l n

abbrev pub compute : ArithmeticOp → List Bool → List Bool → Bool → List Bool
compute Add a b c = add_c a b c
compute Subtract a b c = sub_w a b
compute Multiply a b c = mul_w a b

-- `fold_constant_arithmetic`
abbrev pub fold_by : ArithmeticOp → Option Bool → Option (List Bool) → Option (List Bool) → Option (List Bool)
fold_by op none a b = none
fold_by op (some c) none b = none
fold_by op (some c) (some a) none = none
fold_by op (some c) (some a) (some b) = some (compute op a b c)

unfoldable pub fold_constant_arithmetic : ArithmeticOp → List ℕ → List ℕ → Option ℕ → Netlist → Option (List Bool)
fold_constant_arithmetic op lhs rhs carry l = fold_by op (carry_value l carry) (constant_values l lhs) (constant_values l rhs)

-- `add_arithmetic`, `add_arithmetic_with_carry`
abbrev pub arithmetic_by : Option (List Bool) → ArithmeticOp → List ℕ → List ℕ → Option ℕ → Netlist → Made (List ℕ)
arithmetic_by (some vs) op lhs rhs carry l = each add_constant vs l
arithmetic_by none op lhs rhs carry l =
    add_recorded (arithmetic_key (arithmetic_word op) lhs rhs carry) (add_nodes (source 10 (count 3 l.records)) 0 (length lhs) l)

unfoldable pub add_arithmetic : ArithmeticOp → List ℕ → List ℕ → Option ℕ → Netlist → Made (List ℕ)
add_arithmetic op lhs rhs carry l = arithmetic_by (fold_constant_arithmetic op lhs rhs carry l) op lhs rhs carry l

-- `add_comparison`
unfoldable pub add_comparison : ComparisonOp → List ℕ → List ℕ → Netlist → Made (List ℕ)
add_comparison op lhs rhs l = add_recorded (comparison_key (comparison_word op) lhs rhs) (add_nodes (source 11 (count 4 l.records)) 0 1 l)
