-- lib.rs of struo-synth: `Lowering`. Assumes nothing.
-- What is lowered before an expression is a list (steps); what is then made of it (build) reads the tables and calls nothing back.
use Rattle.std.specs.Prelude.{Bool, true, false, not, cond, ◌&&◌, ◌||◌, List, [], ◌∷◌, ◌++◌, map, ℕ, zero, suc, pred, ◌+◌, ◌*◌, ◌-◌, ◌^◌, ◌%◌, min, max, eqb, leb, ltb, length, get_or, take, drop, set, replicate}
use Rattle.std.proofs.Math.Option.{Option, none, some}
use Rattle.std.proofs.Math.ListN.{get_elem?}
use Rattle.spec_rtl.specs.Word.{bits}
use Rattle.spec_rtl.specs.Table.{entry}
use Rattle.spec_rtl.specs.Rtl as R
use Rattle.spec_rtl.specs.Rtl.{Module, Expr, Kind, Unary, Binary, Sig, Dir, Control, Reset, Register, Port, Memory, Driver, by_assign}
use Rattle.spec_model.specs.Words.{absent, source, Netlist, bit_word, low_word, control_words, reset_words}
use Rattle.spec_model.specs.Builder as B
use Rattle.spec_model.specs.Builder.{Out, refused, done, and_then, Made, constant_value, is_value, add_constant, add_not, add_and, add_or, add_xor, add_mux, also, each, both, from, add_nodes, add_input_port, add_output_port, push}
use Rattle.spec_model.specs.WordCells.{arithmetic, comparison}
use Rattle.spec_model.specs.Ranges.{expr_at, width_at, Gate, AndGate, OrGate, XorGate, Class, Bitwise, Adds, Subtracts, Other, class_of, adder_width}

-- ---- gates from finished operands ----

abbrev pub add_gate : Gate → ℕ → ℕ → Netlist → Made ℕ
add_gate AndGate a b l = add_and a b l
add_gate OrGate a b l = add_or a b l
add_gate XorGate a b l = add_xor a b l

-- `reduce_tree`: a level, and levels while there are two nets or more
unfoldable pub level : Gate → List ℕ → Netlist → Made (List ℕ)
level g [] l = done ([], l)
level g (x ∷ []) l = done (x ∷ [], l)
level g (x ∷ y ∷ xs) l = and_then (add_gate g x y l) (λ (n, l₁). also n (level g xs l₁))

unfoldable pub levels : ℕ → Gate → List ℕ → Netlist → Made (List ℕ)
levels zero g xs l = done (xs, l)
levels (suc f) g xs l = elim (ltb 1 (length xs)) [ true ↦ and_then (level g xs l) (λ (ys, l₁). levels f g ys l₁) | false ↦ done (xs, l) ]

unfoldable pub reduce_tree : Gate → Bool → List ℕ → Netlist → Made (List ℕ)
reduce_tree g identity [] l = each add_constant (identity ∷ []) l
reduce_tree g identity (x ∷ xs) l = levels (length xs) g (x ∷ xs) l

-- `equal_words`
unfoldable pub add_equal : ℕ → ℕ → Netlist → Made ℕ
add_equal x y l = and_then (add_xor x y l) (λ (d, l₁). add_not d l₁)

unfoldable pub equal_words : List ℕ → List ℕ → Netlist → Made (List ℕ)
equal_words xs ys l = and_then (both add_equal xs ys l) (λ (zs, l₁). reduce_tree AndGate true zs l₁)

-- `shift_left`, `shift_right`: for each bit of the amount a stage of muxes
pub data Shift : Type 0 where
  LeftS RightS ArithmeticS : Shift

abbrev pub moved_down : ℕ → ℕ → List ℕ → List ℕ
moved_down fill d r = map (λ i. get_or r (i + d) fill) (from 0 (length r))

-- moved by d places; z is the false constant, an arithmetic shift fills with the top bit of this stage
abbrev pub shifted : Shift → ℕ → ℕ → List ℕ → List ℕ
shifted LeftS z d r = map (λ i. cond (ltb i d) z (get_or r (i - d) z)) (from 0 (length r))
shifted RightS z d r = moved_down z d r
shifted ArithmeticS z d r = moved_down (get_or r (pred (length r)) z) d r

unfoldable pub stages : Shift → ℕ → ℕ → List ℕ → List ℕ → Netlist → Made (List ℕ)
stages h z k [] r l = done (r, l)
stages h z k (s ∷ ss) r l = and_then (both (add_mux s) (shifted h z (min (2 ^ k) (length r)) r) r l) (λ (r₁, l₁). stages h z (suc k) ss r₁ l₁)

unfoldable pub shift : Shift → List ℕ → List ℕ → Netlist → Made (List ℕ)
shift h input amount l = and_then (add_constant false l) (λ (z, l₁). stages h z 0 amount input l₁)

-- the unary arm of `lower_expression`
unfoldable pub lower_unary : Unary → List ℕ → Netlist → Made (List ℕ)
lower_unary R.BitNot xs l = each add_not xs l
lower_unary R.LogicNot xs l = and_then (reduce_tree OrGate false xs l) (λ (r, l₁). each add_not r l₁)
lower_unary R.ReduceOr xs l = reduce_tree OrGate false xs l
lower_unary R.ReduceAnd xs l = reduce_tree AndGate true xs l
lower_unary R.ReduceXor xs l = reduce_tree XorGate false xs l

-- `lower_binary`
unfoldable pub lower_binary : Binary → List ℕ → List ℕ → Netlist → Made (List ℕ)
lower_binary R.And xs ys l = both add_and xs ys l
lower_binary R.Or xs ys l = both add_or xs ys l
lower_binary R.Xor xs ys l = both add_xor xs ys l
lower_binary R.Add xs ys l = arithmetic B.Add xs ys none l
lower_binary R.Sub xs ys l = arithmetic B.Subtract xs ys none l
lower_binary R.Mul xs ys l = arithmetic B.Multiply xs ys none l
lower_binary R.Equal xs ys l = equal_words xs ys l
lower_binary R.NotEqual xs ys l = and_then (equal_words xs ys l) (λ (r, l₁). each add_not r l₁)
lower_binary R.LessU xs ys l = comparison B.LessThanUnsigned xs ys l
lower_binary R.LessS xs ys l = comparison B.LessThanSigned xs ys l
lower_binary R.LessEqU xs ys l = comparison B.LessOrEqualUnsigned xs ys l
lower_binary R.LessEqS xs ys l = comparison B.LessOrEqualSigned xs ys l
lower_binary R.GreaterU xs ys l = comparison B.LessThanUnsigned ys xs l
lower_binary R.GreaterS xs ys l = comparison B.LessThanSigned ys xs l
lower_binary R.GreaterEqU xs ys l = comparison B.LessOrEqualUnsigned ys xs l
lower_binary R.GreaterEqS xs ys l = comparison B.LessOrEqualSigned ys xs l
lower_binary R.ShiftL xs ys l = shift LeftS xs ys l
lower_binary R.ShiftR xs ys l = shift RightS xs ys l
lower_binary R.ShiftA xs ys l = shift ArithmeticS xs ys l

-- ---- which operands an Add takes ----

-- `is_zero_expression`: g is it of the expressions before
abbrev pub all_zero : (ℕ → Bool) → List ℕ → Bool
all_zero g [] = true
all_zero g (p ∷ ps) = g p && all_zero g ps

abbrev pub zero_kind : (ℕ → Bool) → ℕ → Kind → Bool
zero_kind g w (R.Signal s lsb) = false
zero_kind g w (R.Constant n) = eqb (n % 2 ^ w) 0
zero_kind g w (R.Un op a) = false
zero_kind g w (R.Bin op a b) = false
zero_kind g w (R.Mux c t e) = false
zero_kind g w (R.Concat ps) = all_zero g ps
zero_kind g w (R.Slice a lsb) = false

abbrev pub zero_rule : (ℕ → Bool) → Expr → Bool
zero_rule g x = zero_kind g x.width x.kind

unfoldable pub is_zero_expression : List Expr → ℕ → Bool
is_zero_expression xs e = entry false zero_rule xs e

-- `carry_lsb`
abbrev pub carry_parts : List Expr → List ℕ → Option ℕ
carry_parts xs [] = none
carry_parts xs (p ∷ []) = cond (eqb (width_at xs p) 1) (some p) none
carry_parts xs (p ∷ q ∷ ps) = let r = carry_parts xs (q ∷ ps) in cond (is_zero_expression xs p) r none

abbrev pub carry_kind : List Expr → ℕ → ℕ → Kind → Option ℕ
carry_kind xs e w (R.Signal s lsb) = none
carry_kind xs e w (R.Constant n) = cond (ltb (n % 2 ^ w) 2) (some e) none
carry_kind xs e w (R.Un op a) = none
carry_kind xs e w (R.Bin op a b) = none
carry_kind xs e w (R.Mux c t f) = none
carry_kind xs e w (R.Concat ps) = carry_parts xs ps
carry_kind xs e w (R.Slice a lsb) = none

unfoldable pub carry_lsb : List Expr → ℕ → Option ℕ
carry_lsb xs e = cond (eqb (width_at xs e) 1) (some e) (carry_kind xs e (width_at xs e) (expr_at xs e).kind)

abbrev pub is_add : Class → Bool
is_add (Bitwise g) = false
is_add Adds = true
is_add Subtracts = false
is_add Other = false

-- `add_operands`
abbrev pub add_kind : Kind → Option (ℕ × ℕ)
add_kind (R.Signal s lsb) = none
add_kind (R.Constant n) = none
add_kind (R.Un op a) = none
add_kind (R.Bin op a b) = cond (is_add (class_of op)) (some (a, b)) none
add_kind (R.Mux c t e) = none
add_kind (R.Concat ps) = none
add_kind (R.Slice a lsb) = none

unfoldable pub add_operands : List Expr → ℕ → Option (ℕ × ℕ)
add_operands xs e = add_kind (expr_at xs e).kind

-- what a Binary lowers: two expressions, and perhaps one whose bit 0 is the carry
pub record Operands : Type 0 where
  pub lhs : ℕ
  pub rhs : ℕ
  pub carry : Option ℕ

abbrev pub fused : Option (ℕ × ℕ) → Option ℕ → Operands → Operands
fused none c else = else
fused (some p) none else = else
fused (some p) (some c) else = record { lhs = p.0; rhs = p.1; carry = some c }

-- the `let else` of `lower_add_with_carry`: a fused left, a fused right, or the plain operands
unfoldable pub operands_of : List Expr → Binary → ℕ → ℕ → Operands
operands_of xs op a b =
    let plain : Operands = record { lhs = a; rhs = b; carry = none } in
    cond (is_add (class_of op)) (fused (add_operands xs a) (carry_lsb xs b) (fused (add_operands xs b) (carry_lsb xs a) plain)) plain

-- ---- the state ----

-- the netlist; nets of signal bits; signal bits on the way (a mark may stay: a finished net is asked first); nets of whole expressions;
-- nets of expression bits lowered by ranges (forgotten once the whole is there)
pub record State : Type 0 where
  pub netlist : Netlist
  pub signal_bits : List (List (Option ℕ))
  pub resolving : List (List Bool)
  pub expression_bits : List (Option (List ℕ))
  pub expression_ranges : List (List (Option ℕ))

abbrev pub cell : {A : Type 0} → A → List (List A) → ℕ → ℕ → A
cell d t i j = get_or (get_or t i []) j d

abbrev pub put : {A : Type 0} → List (List A) → ℕ → ℕ → A → List (List A)
put t i j a = set t i (set (get_or t i []) j a)

abbrev pub state : Netlist → List (List (Option ℕ)) → List (List Bool) → List (Option (List ℕ)) → List (List (Option ℕ)) → State
state l s r e g = record { netlist = l; signal_bits = s; resolving = r; expression_bits = e; expression_ranges = g }

abbrev pub with_netlist : State → Netlist → State
with_netlist st l = state l st.signal_bits st.resolving st.expression_bits st.expression_ranges

unfoldable pub set_signal_bit : State → ℕ → ℕ → ℕ → State
set_signal_bit st s b n = state st.netlist (put st.signal_bits s b (some n)) st.resolving st.expression_bits st.expression_ranges

unfoldable pub set_signal : State → ℕ → List ℕ → State
set_signal st s ns = state st.netlist (set st.signal_bits s (map some ns)) st.resolving st.expression_bits st.expression_ranges

unfoldable pub mark : State → ℕ → ℕ → State
mark st s b = state st.netlist st.signal_bits (put st.resolving s b true) st.expression_bits st.expression_ranges

unfoldable pub set_whole : State → ℕ → List ℕ → State
set_whole st e ns = state st.netlist st.signal_bits st.resolving (set st.expression_bits e (some ns)) (set st.expression_ranges e [])

unfoldable pub whole : State → ℕ → Option (List ℕ)
whole st e = get_or st.expression_bits e none

abbrev pub ranges_by : Option (List ℕ) → List (Option ℕ) → ℕ → List ℕ → List (Option ℕ)
ranges_by (some all) row lsb ns = row
ranges_by none row lsb ns = take lsb row ++ map some ns ++ drop (lsb + length ns) row

unfoldable pub set_range : State → ℕ → ℕ → List ℕ → State
set_range st e lsb ns =
    state st.netlist st.signal_bits st.resolving st.expression_bits
    (set st.expression_ranges e (ranges_by (whole st e) (get_or st.expression_ranges e []) lsb ns))

-- ---- reading back ----

abbrev pub net_of : Option ℕ → ℕ
net_of none = absent
net_of (some n) = n

abbrev pub nets_of : Option (List ℕ) → List ℕ
nets_of none = []
nets_of (some ns) = ns

unfoldable pub signal_bit : State → ℕ → ℕ → Option ℕ
signal_bit st s b = cell none st.signal_bits s b

unfoldable pub signal_net : State → ℕ → ℕ → ℕ
signal_net st s b = net_of (signal_bit st s b)

unfoldable pub signal_nets : State → ℕ → ℕ → ℕ → List ℕ
signal_nets st s lsb w = map (signal_net st s) (from lsb w)

unfoldable pub whole_nets : State → ℕ → List ℕ
whole_nets st e = nets_of (whole st e)

-- bit b of a whole expression
unfoldable pub whole_net : State → ℕ → ℕ → ℕ
whole_net st e b = get_or (whole_nets st e) b absent

abbrev pub range_row : State → ℕ → ℕ → ℕ → List (Option ℕ)
range_row st e lsb w = take w (drop lsb (get_or st.expression_ranges e []))

abbrev pub range_by : Option (List ℕ) → State → ℕ → ℕ → ℕ → List ℕ
range_by (some ns) st e lsb w = take w (drop lsb ns)
range_by none st e lsb w = map net_of (range_row st e lsb w)

unfoldable pub range_nets : State → ℕ → ℕ → ℕ → List ℕ
range_nets st e lsb w = range_by (whole st e) st e lsb w

abbrev pub all_some : List (Option ℕ) → Bool
all_some [] = true
all_some (none ∷ os) = false
all_some (some n ∷ os) = all_some os

abbrev pub known_by : Option (List ℕ) → List (Option ℕ) → Bool
known_by (some ns) row = true
known_by none row = all_some row

unfoldable pub range_known : State → ℕ → ℕ → ℕ → Bool
range_known st e lsb w = known_by (whole st e) (range_row st e lsb w)

-- ---- what is lowered before, in order ----

-- something to lower: a signal's bit, an expression, a range of an expression (lsb, width)
pub data Need : Type 0 where
  Bit : ℕ → ℕ → Need
  Whole : ℕ → Need
  Range : ℕ → ℕ → ℕ → Need

-- Unless c v n: n, unless a Mux with condition c is known to take the side of v
pub data Step : Type 0 where
  Always : Need → Step
  Unless : ℕ → Bool → Need → Step

-- the flag `resolve_observable_dependencies` decides twice. First: what a signal bit lowers of its driver, and its net then
abbrev pub driven_by : Bool → ℕ → ℕ → Need
driven_by false e o = Whole e
driven_by true e o = Range e o 1

abbrev pub driven_net : Bool → State → ℕ → ℕ → ℕ
driven_net false st e o = whole_net st e o
driven_net true st e o = get_or (range_nets st e o 1) 0 absent

-- Second: the side that a Mux takes alone, if any
abbrev pub selected : Bool → State → ℕ → Option Bool
selected false st c = none
selected true st c = constant_value st.netlist (whole_net st c 0)

abbrev pub wholes : List ℕ → List Step
wholes es = map (λ e. Always (Whole e)) es

unfoldable pub signal_steps : ℕ → ℕ → ℕ → List Step
signal_steps s b w = map (λ i. Always (Bit s i)) (from b w)

abbrev pub operand_steps : Operands → List Step
operand_steps o = elim o.carry [ none ↦ wholes (o.lhs ∷ o.rhs ∷ []) | some c ↦ wholes (o.lhs ∷ o.rhs ∷ c ∷ []) ]

abbrev pub backwards : List ℕ → List ℕ → List ℕ
backwards [] acc = acc
backwards (p ∷ ps) acc = backwards ps (p ∷ acc)

abbrev pub kind_steps : List Expr → ℕ → Kind → List Step
kind_steps xs w (R.Signal s lsb) = signal_steps s lsb w
kind_steps xs w (R.Constant n) = []
kind_steps xs w (R.Un op a) = wholes (a ∷ [])
kind_steps xs w (R.Bin op a b) = operand_steps (operands_of xs op a b)
kind_steps xs w (R.Mux c t e) = Always (Whole c) ∷ Unless c false (Whole t) ∷ Unless c true (Whole e) ∷ []
kind_steps xs w (R.Concat ps) = wholes (backwards ps [])
kind_steps xs w (R.Slice a lsb) = Always (Range a lsb w) ∷ []

unfoldable pub whole_steps : List Expr → ℕ → List Step
whole_steps xs e = kind_steps xs (width_at xs e) (expr_at xs e).kind

-- a part of a Concat that a range meets: expression, lsb, width
pub record Piece : Type 0 where
  pub part : ℕ
  pub lsb : ℕ
  pub width : ℕ

-- the parts are given the least significant first; the first of them begins at bit at
unfoldable pub pieces : List Expr → ℕ → ℕ → ℕ → List ℕ → List Piece
pieces xs lsb end at [] = []
pieces xs lsb end at (p ∷ ps) =
    let rest = pieces xs lsb end (at + width_at xs p) ps in
    let lo = max lsb at in
    let hi = min end (at + width_at xs p) in
    cond (ltb lo hi) (record { part = p; lsb = lo - at; width = hi - lo } ∷ rest) rest

unfoldable pub concat_pieces : List Expr → List ℕ → ℕ → ℕ → List Piece
concat_pieces xs ps lsb w = pieces xs lsb (lsb + w) 0 (backwards ps [])

abbrev pub is_bit_not : Unary → Bool
is_bit_not R.BitNot = true
is_bit_not R.LogicNot = false
is_bit_not R.ReduceOr = false
is_bit_not R.ReduceAnd = false
is_bit_not R.ReduceXor = false

abbrev pub gate_of : Class → Option Gate
gate_of (Bitwise g) = some g
gate_of Adds = none
gate_of Subtracts = none
gate_of Other = none

abbrev pub gate_steps : Option Gate → ℕ → ℕ → ℕ → ℕ → ℕ → List Step
gate_steps none e a b lsb w = wholes (e ∷ [])
gate_steps (some g) e a b lsb w = Always (Range a lsb w) ∷ Always (Range b lsb w) ∷ []

-- the other kinds: the whole of the expression itself
abbrev pub kind_range_steps : List Expr → ℕ → ℕ → ℕ → Kind → List Step
kind_range_steps xs e lsb w (R.Signal s l) = signal_steps s (l + lsb) w
kind_range_steps xs e lsb w (R.Constant n) = []
kind_range_steps xs e lsb w (R.Un op a) = cond (is_bit_not op) (Always (Range a lsb w) ∷ []) (wholes (e ∷ []))
kind_range_steps xs e lsb w (R.Bin op a b) = gate_steps (gate_of (class_of op)) e a b lsb w
kind_range_steps xs e lsb w (R.Mux c t f) = Always (Whole c) ∷ Unless c false (Range t lsb w) ∷ Unless c true (Range f lsb w) ∷ []
kind_range_steps xs e lsb w (R.Concat ps) = map (λ p. Always (Range p.part p.lsb p.width)) (concat_pieces xs ps lsb w)
kind_range_steps xs e lsb w (R.Slice a l) = Always (Range a (l + lsb) w) ∷ []

unfoldable pub range_steps_of : List Expr → ℕ → ℕ → ℕ → List Step
range_steps_of xs e lsb w = kind_range_steps xs e lsb w (expr_at xs e).kind

-- ---- what is then made ----

abbrev pub given : State → List ℕ → Made (List ℕ)
given st ns = done (ns, st.netlist)

abbrev pub truncated : Option ℕ → List ℕ → List ℕ
truncated none ns = ns
truncated (some k) ns = take k ns

abbrev pub resized : Option ℕ → ℕ → Made (List ℕ) → Made (List ℕ)
resized none w r = r
resized (some k) w r = and_then r (λ (ns, l). and_then (add_constant false l) (λ (z, l₁). done (ns ++ replicate (w - length ns) z, l₁)))

abbrev pub build_operands : Binary → Option ℕ → State → Operands → Made (List ℕ)
build_operands op narrow st o =
    let xs = truncated narrow (whole_nets st o.lhs) in
    let ys = truncated narrow (whole_nets st o.rhs) in
    elim o.carry [ none ↦ lower_binary op xs ys st.netlist | some c ↦ arithmetic B.Add xs ys (some (whole_net st c 0)) st.netlist ]

-- the binary arm of `lower_expression`, and the end of `lower_add_with_carry`
unfoldable pub build_binary : List Expr → State → ℕ → ℕ → Binary → ℕ → ℕ → Made (List ℕ)
build_binary xs st e w op a b =
    let narrow = cond (is_add (class_of op)) (adder_width xs e) none in
    resized narrow w (build_operands op narrow st (operands_of xs op a b))

abbrev pub build_mux : Option Bool → ℕ → List ℕ → List ℕ → Netlist → Made (List ℕ)
build_mux (some v) c ts es l = done (cond v ts es, l)
build_mux none c ts es l = both (add_mux c) ts es l

abbrev pub part_nets : State → List ℕ → List ℕ
part_nets st [] = []
part_nets st (p ∷ ps) = part_nets st ps ++ whole_nets st p

abbrev pub build_kind : List Expr → Bool → State → ℕ → ℕ → Kind → Made (List ℕ)
build_kind xs ob st e w (R.Signal s lsb) = given st (signal_nets st s lsb w)
build_kind xs ob st e w (R.Constant n) = each add_constant (bits w n) st.netlist
build_kind xs ob st e w (R.Un op a) = lower_unary op (whole_nets st a) st.netlist
build_kind xs ob st e w (R.Bin op a b) = build_binary xs st e w op a b
build_kind xs ob st e w (R.Mux c t f) = build_mux (selected ob st c) (whole_net st c 0) (whole_nets st t) (whole_nets st f) st.netlist
build_kind xs ob st e w (R.Concat ps) = given st (part_nets st ps)
build_kind xs ob st e w (R.Slice a lsb) = given st (range_nets st a lsb w)

unfoldable pub build_whole : List Expr → Bool → State → ℕ → Made (List ℕ)
build_whole xs ob st e = build_kind xs ob st e (width_at xs e) (expr_at xs e).kind

abbrev pub piece_nets : State → List Piece → List ℕ
piece_nets st [] = []
piece_nets st (p ∷ ps) = range_nets st p.part p.lsb p.width ++ piece_nets st ps

abbrev pub range_gate : Option Gate → State → ℕ → ℕ → ℕ → ℕ → ℕ → Made (List ℕ)
range_gate none st e a b lsb w = given st (range_nets st e lsb w)
range_gate (some g) st e a b lsb w = both (add_gate g) (range_nets st a lsb w) (range_nets st b lsb w) st.netlist

abbrev pub range_kind : List Expr → Bool → State → ℕ → ℕ → ℕ → ℕ → Kind → Made (List ℕ)
range_kind xs ob st e lsb w v (R.Signal s l) = given st (signal_nets st s (l + lsb) w)
range_kind xs ob st e lsb w v (R.Constant n) = each add_constant (take w (drop lsb (bits v n))) st.netlist
range_kind xs ob st e lsb w v (R.Un op a) = cond (is_bit_not op) (each add_not (range_nets st a lsb w) st.netlist) (given st (range_nets st e lsb w))
range_kind xs ob st e lsb w v (R.Bin op a b) = range_gate (gate_of (class_of op)) st e a b lsb w
range_kind xs ob st e lsb w v (R.Mux c t f) = build_mux (selected ob st c) (whole_net st c 0) (range_nets st t lsb w) (range_nets st f lsb w) st.netlist
range_kind xs ob st e lsb w v (R.Concat ps) = given st (piece_nets st (concat_pieces xs ps lsb w))
range_kind xs ob st e lsb w v (R.Slice a l) = given st (range_nets st a (l + lsb) w)

unfoldable pub build_range : List Expr → Bool → State → ℕ → ℕ → ℕ → Made (List ℕ)
build_range xs ob st e lsb w = range_kind xs ob st e lsb w (width_at xs e) (expr_at xs e).kind

-- ---- the walk: rec lowers what is needed ----

abbrev pub unless : Bool → (Need → State → Out State) → Need → State → Out State
unless true rec n st = done st
unless false rec n st = rec n st

unfoldable pub lower_steps : (Need → State → Out State) → Bool → List Step → State → Out State
lower_steps rec ob [] st = done st
lower_steps rec ob (Always n ∷ ss) st = and_then (rec n st) (λ st₁. lower_steps rec ob ss st₁)
lower_steps rec ob (Unless c v n ∷ ss) st = and_then (unless (is_value v (selected ob st c)) rec n st) (λ st₁. lower_steps rec ob ss st₁)

abbrev pub expr_driver : Driver → Option (ℕ × ℕ)
expr_driver R.FromInput = none
expr_driver (R.FromRegister r) = none
expr_driver (R.FromData k second) = none
expr_driver (R.FromExpr e o) = some (e, o)
expr_driver R.Nothing = none

-- `index_assignments`: the driver of a signal's bit
unfoldable pub driver_of : Module → ℕ → ℕ → Option (ℕ × ℕ)
driver_of m s b = expr_driver (by_assign m.assigns s b)

unfoldable pub drive : (Need → State → Out State) → Bool → ℕ → ℕ → ℕ → ℕ → State → Out State
drive rec ob s b e o st = and_then (rec (driven_by ob e o) (mark st s b)) (λ st₁. done (set_signal_bit st₁ s b (driven_net ob st₁ e o)))

-- `resolve_signal_bit`
unfoldable pub resolve_signal_bit : (Need → State → Out State) → Module → Bool → ℕ → ℕ → State → Out State
resolve_signal_bit rec m ob s b st =
    elim (signal_bit st s b) [
      | some n ↦ done st
      | none ↦
          elim (driver_of m s b) [
            | none ↦ refused 6 s b
            | some d ↦ elim (cell false st.resolving s b) [ true ↦ refused 7 s b | false ↦ drive rec ob s b d.0 d.1 st ]
          ]
    ]

unfoldable pub keep_whole : State → ℕ → Made (List ℕ) → Out State
keep_whole st e r = and_then r (λ (ns, l). done (set_whole (with_netlist st l) e ns))

-- `lower_expression`
unfoldable pub lower_expression : (Need → State → Out State) → Module → Bool → ℕ → State → Out State
lower_expression rec m ob e st =
    elim (whole st e) [
      | some ns ↦ done st
      | none ↦ and_then (lower_steps rec ob (whole_steps m.exprs e) st) (λ st₁. keep_whole st₁ e (build_whole m.exprs ob st₁ e))
    ]

unfoldable pub keep_range : State → ℕ → ℕ → Made (List ℕ) → Out State
keep_range st e lsb r = and_then r (λ (ns, l). done (set_range (with_netlist st l) e lsb ns))

-- `lower_expression_range`
unfoldable pub lower_expression_range : (Need → State → Out State) → Module → Bool → ℕ → ℕ → ℕ → State → Out State
lower_expression_range rec m ob e lsb w st =
    elim (range_known st e lsb w) [
      | true ↦ done st
      | false ↦ and_then (lower_steps rec ob (range_steps_of m.exprs e lsb w) st) (λ st₁. keep_range st₁ e lsb (build_range m.exprs ob st₁ e lsb w))
    ]

abbrev pub lower_by : (Need → State → Out State) → Module → Bool → Need → State → Out State
lower_by rec m ob (Bit s b) st = resolve_signal_bit rec m ob s b st
lower_by rec m ob (Whole e) st = lower_expression rec m ob e st
lower_by rec m ob (Range e lsb w) st = lower_expression_range rec m ob e lsb w st

-- on a fuel, of which `plenty` is enough: with u signal bits unmarked and C = 2 expressions + 1 a signal bit costs u C, an expression
-- u C + 2 e + 1, a range u C + 2 e + 2. Without fuel it answers with a number that no refusal has
unfoldable pub lower_need : ℕ → Module → Bool → Need → State → Out State
lower_need zero m ob n st = refused absent 0 0
lower_need (suc f) m ob n st = lower_by (λ n' st'. lower_need f m ob n' st') m ob n st

abbrev pub sum_widths : List Sig → ℕ
sum_widths [] = 0
sum_widths (s ∷ ss) = s.width + sum_widths ss

unfoldable pub plenty : Module → ℕ
plenty m = (sum_widths m.signals + 1) * (2 * length m.exprs + 1)

unfoldable pub lower_all : Module → Bool → List Step → State → Out State
lower_all m ob ss st = lower_steps (λ n st'. lower_need (plenty m) m ob n st') ob ss st

-- ---- `lower` ----

abbrev pub signal_width : Module → ℕ → ℕ
signal_width m s = (get_or m.signals s (record { width = 0; dir = R.Internal })).width

-- `new`
unfoldable pub start : Module → ℕ → ℕ → State
start m n p =
    state (record { max_nets = n; max_list = p; nodes = []; records = [] }) (map (λ s. replicate s.width none) m.signals)
    (map (λ s. replicate s.width false) m.signals) (map (λ x. none) m.exprs) (map (λ x. replicate x.width none) m.exprs)

-- `reserve_sources`
abbrev pub reserve : State → ℕ → Made (List ℕ) → Out State
reserve st s r = and_then r (λ (ns, l). done (set_signal (with_netlist st l) s ns))

abbrev pub reserve_input : Dir → ℕ → ℕ → State → Out State
reserve_input R.Internal s w st = done st
reserve_input R.Input s w st = reserve st s (add_input_port s w st.netlist)
reserve_input R.Output s w st = done st

unfoldable pub reserve_inputs : ℕ → List Sig → State → Out State
reserve_inputs s [] st = done st
reserve_inputs s (x ∷ xs) st = and_then (reserve_input x.dir s x.width st) (λ st₁. reserve_inputs (suc s) xs st₁)

-- nodes of a kind, for the bits of signal s, numbered from b on
abbrev pub reserve_bits : Module → ℕ → ℕ → ℕ → ℕ → State → Out State
reserve_bits m kind owner b s st = reserve st s (add_nodes (source kind owner) b (signal_width m s) st.netlist)

unfoldable pub reserve_registers : Module → ℕ → List Register → State → Out State
reserve_registers m k [] st = done st
reserve_registers m k (r ∷ rs) st = and_then (reserve_bits m 7 k 0 r.target st) (λ st₁. reserve_registers m (suc k) rs st₁)

abbrev pub reserve_second : Module → ℕ → ℕ → Option Port → State → Out State
reserve_second m k b none st = done st
reserve_second m k b (some p) st = reserve_bits m 9 k b p.read_data st

unfoldable pub reserve_memories : Module → ℕ → List Memory → State → Out State
reserve_memories m k [] st = done st
reserve_memories m k (x ∷ xs) st =
    and_then (reserve_bits m 9 k 0 x.first.read_data st) (λ st₁.
    and_then (reserve_second m k (signal_width m x.first.read_data) x.second st₁) (λ st₂. reserve_memories m (suc k) xs st₂))

unfoldable pub reserve_sources : Module → State → Out State
reserve_sources m st =
    and_then (reserve_inputs 0 m.signals st) (λ st₁.
    and_then (reserve_registers m 0 m.registers st₁) (λ st₂. reserve_memories m 0 m.memories st₂))

-- controls and records
abbrev pub bit_step : ℕ → List Step
bit_step s = Always (Bit s 0) ∷ []

abbrev pub control_steps : Option Control → List Step
control_steps none = []
control_steps (some c) = bit_step c.signal

abbrev pub net_control : State → Control → Control
net_control st c = record { signal = signal_net st c.signal 0; level = c.level }

abbrev pub option_control : State → Option Control → Option Control
option_control st none = none
option_control st (some c) = some (net_control st c)

abbrev pub push_record : List ℕ → State → Out State
push_record r st = and_then (push r st.netlist) (λ l. done (with_netlist st l))

-- `connect_memories`: addresses and data, then clock, write enable, read enable; at the second port the clock last
abbrev pub word_steps : Port → List Step
word_steps p = wholes (p.read_address ∷ p.write_address ∷ p.write_data ∷ [])

abbrev pub enable_steps : Port → List Step
enable_steps p = bit_step p.write_enable.signal ++ control_steps p.read_enable

abbrev pub second_steps : Option Port → List Step
second_steps none = []
second_steps (some p) = word_steps p ++ enable_steps p ++ bit_step p.clock

abbrev pub memory_steps : Memory → List Step
memory_steps x = word_steps x.first ++ bit_step x.first.clock ++ enable_steps x.first ++ second_steps x.second

-- four widths, four net lists, two controls, clock, edge
abbrev pub port_words : Module → State → Port → List ℕ
port_words m st p =
    let ra = whole_nets st p.read_address in
    let rd = signal_nets st p.read_data 0 (signal_width m p.read_data) in
    let wa = whole_nets st p.write_address in
    let wd = whole_nets st p.write_data in
    length ra ∷ length rd ∷ length wa ∷ length wd ∷ ra ++ rd ++ wa ++ wd ++ control_words (option_control st p.read_enable) ++
    control_words (some (net_control st p.write_enable)) ++ (signal_net st p.clock 0 ∷ low_word p.rising ∷ [])

-- port count and ports
abbrev pub ports_words : Module → State → Port → Option Port → List ℕ
ports_words m st p none = 1 ∷ port_words m st p
ports_words m st p (some q) = 2 ∷ port_words m st p ++ port_words m st q

unfoldable pub connect_memories : Module → Bool → ℕ → List Memory → State → Out State
connect_memories m ob k [] st = done st
connect_memories m ob k (x ∷ xs) st =
    and_then (lower_all m ob (memory_steps x) st) (λ st₁.
    and_then (push_record (2 ∷ k ∷ x.depth ∷ x.style ∷ 1 ∷ ports_words m st₁ x.first x.second) st₁) (λ st₂. connect_memories m ob (suc k) xs st₂))

-- `connect_registers`: next, clock, enable, reset value, then (at bit 0) the reset signal
abbrev pub reset_steps : Option Reset → List Step
reset_steps none = []
reset_steps (some r) = wholes (r.value ∷ []) ++ bit_step r.control.signal

abbrev pub register_steps : Register → List Step
register_steps r = wholes (r.next ∷ []) ++ bit_step r.clock ++ control_steps r.enable ++ reset_steps r.reset

-- bit b of register k
abbrev pub push_register : ℕ → Register → ℕ → State → Option Reset → Out State
push_register k r b st reset =
    push_record (1 ∷ k ∷ b ∷ signal_net st r.target b ∷ whole_net st r.next b ∷ signal_net st r.clock 0 ∷ low_word r.rising ∷
    control_words (option_control st r.enable) ++ reset_words reset) st

abbrev pub reset_by : Option Bool → ℕ → Register → ℕ → State → Reset → Out State
reset_by none k r b st x = refused 8 k b
reset_by (some v) k r b st x = push_register k r b st (some (record { control = net_control st x.control; asynchronous = x.asynchronous; value = bit_word v }))

abbrev pub register_bit : Option Reset → ℕ → Register → ℕ → State → Out State
register_bit none k r b st = push_register k r b st none
register_bit (some x) k r b st = reset_by (constant_value st.netlist (whole_net st x.value b)) k r b st x

unfoldable pub register_bits : ℕ → Register → ℕ → ℕ → State → Out State
register_bits k r b zero st = done st
register_bits k r b (suc w) st = and_then (register_bit r.reset k r b st) (λ st₁. register_bits k r (suc b) w st₁)

unfoldable pub connect_registers : Module → Bool → ℕ → List Register → State → Out State
connect_registers m ob k [] st = done st
connect_registers m ob k (r ∷ rs) st =
    and_then (lower_all m ob (register_steps r) st) (λ st₁.
    and_then (register_bits k r 0 (signal_width m r.target) st₁) (λ st₂. connect_registers m ob (suc k) rs st₂))

-- `connect_outputs`
abbrev pub connect_output : Module → Bool → Dir → ℕ → ℕ → State → Out State
connect_output m ob R.Internal s w st = done st
connect_output m ob R.Input s w st = done st
connect_output m ob R.Output s w st =
    and_then (lower_all m ob (signal_steps s 0 w) st) (λ st₁.
    and_then (add_output_port s (signal_nets st₁ s 0 w) st₁.netlist) (λ (ns, l). done (with_netlist st₁ l)))

unfoldable pub connect_outputs : Module → Bool → ℕ → List Sig → State → Out State
connect_outputs m ob s [] st = done st
connect_outputs m ob s (x ∷ xs) st = and_then (connect_output m ob x.dir s x.width st) (λ st₁. connect_outputs m ob (suc s) xs st₁)

-- `lower`, with the flag as given: the state at its end
unfoldable pub lower_state : Bool → Module → ℕ → ℕ → Out State
lower_state ob m n p =
    and_then (reserve_sources m (start m n p)) (λ st₁.
    and_then (connect_memories m ob 0 m.memories st₁) (λ st₂.
    and_then (connect_registers m ob 0 m.registers st₂) (λ st₃. connect_outputs m ob 0 m.signals st₃)))

-- the net of bit b of expression e, if it was lowered, whole or by a range
unfoldable pub expression_net : State → ℕ → ℕ → Option ℕ
expression_net st e b = elim (whole st e) [ some ns ↦ get_elem? ns b | none ↦ cell none st.expression_ranges e b ]

unfoldable pub lower_with : Bool → Module → ℕ → ℕ → Out Netlist
lower_with ob m n p = and_then (lower_state ob m n p) (λ st. done st.netlist)

-- the reference: refused 6 to 10 with its place, or the finished netlist
unfoldable pub lower : Module → ℕ → ℕ → Out Netlist
lower m n p = lower_with false m n p
