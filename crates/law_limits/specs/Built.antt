-- What each call of the builder comes to under limits. Assumes nothing.
use Rattle.std.specs.Prelude.{◌≡◌, refl, List, [], ◌∷◌, ◌++◌, ℕ, ◌+◌, length}
use Rattle.std.proofs.Common.{ap, arith}
use Rattle.std.proofs.Math.Option.{Option, none, some}
use Rattle.spec_model.specs.Words.{Node, Netlist, used}
use Rattle.spec_model.specs.Builder.{node_for_net, constant_value, ArithmeticOp, also_value, constant_values, carry_value, fold_constant_arithmetic}
use Rattle.spec_answers.specs.Limits.{limited}

-- ---- a node, a record ----

abbrev pub with_node : Node → Netlist → Netlist
with_node x l = record { max_nets = l.max_nets; max_list = l.max_list; nodes = x ∷ l.nodes; records = l.records }

abbrev pub with_record : List ℕ → Netlist → Netlist
with_record r l = record { max_nets = l.max_nets; max_list = l.max_list; nodes = l.nodes; records = l.records ++ (r ∷ []) }

pub used_more : (rs : List (List ℕ)) (r : List ℕ) → used (rs ++ (r ∷ [])) ≡ used rs + length r
unfolding used
used_more [] r = omega arith
used_more (x ∷ rs) r = omega (arith, used_more rs r)

-- ---- cells and operators ----

-- what is read of a netlist does not go by its limits
values_alike : (N P : ℕ) (l : Netlist) (ns : List ℕ) → constant_values (limited N P l) ns ≡ constant_values l ns
unfolding constant_values constant_value node_for_net
values_alike N P l [] = refl
values_alike N P l (n ∷ ns) = ap (also_value (constant_value l n)) (values_alike N P l ns)

carry_alike : (N P : ℕ) (l : Netlist) (c : Option ℕ) → carry_value (limited N P l) c ≡ carry_value l c
unfolding constant_value node_for_net
carry_alike N P l none = refl
carry_alike N P l (some n) = refl

pub fold_alike : (N P : ℕ) (op : ArithmeticOp) (xs ys : List ℕ) (c : Option ℕ) (l : Netlist) → fold_constant_arithmetic op xs ys c (limited N P l) ≡ fold_constant_arithmetic op xs ys c l
unfolding fold_constant_arithmetic
fold_alike N P op xs ys c l = rw (carry_alike N P l c, values_alike N P l xs, values_alike N P l ys)
