-- What a Binary's operands give, fused or not, narrowed or not: the expression's word, for every valuation of the signals. Assumes nothing.
use Rattle.std.specs.Prelude.{◌≡◌, Bool, cond, List, ◌++◌, ℕ, ◌-◌, ◌^◌, ◌≤◌, ◌<◌, T, length, get_or, take, replicate}
use Rattle.std.proofs.Math.Path.{refl}
use Rattle.std.proofs.Common.{◌∙◌, arith, length-take}
use Rattle.std.proofs.Math.Bool.{true, false}
use Rattle.std.proofs.Math.Option.{Option, none, some}
use Rattle.spec_rtl.specs.Word.{value}
use Rattle.spec_rtl.specs.Ops.{add_c}
use Rattle.spec_rtl.specs.Rtl as R
use Rattle.spec_rtl.specs.Rtl.{Expr, Kind, Binary, Valuation, word, binary}
use Rattle.spec_model.specs.Ranges.{class_of}
use Rattle.word_laws.specs.Add.{narrow_add, narrow_carry}
use Rattle.spec_model.specs.Lowering.{is_add, add_kind, Operands}

-- a cell or gates of the operator, with a carry an adder
abbrev pub cell_word : Binary → List Bool → List Bool → Option Bool → List Bool
cell_word op a b none = binary op a b
cell_word op a b (some c) = add_c a b c

-- bit 0 of the carry's word
abbrev pub carry_bit : (ℕ → List Bool) → Option ℕ → Option Bool
carry_bit u none = none
carry_bit u (some c) = some (get_or (u c) 0 false)

abbrev pub CarryBelow : ℕ → Option ℕ → Type 0
CarryBelow e none = Unit {0}
CarryBelow e (some c) = c < e

-- of the operands o of expression e, whose operator is op and whose width is w, under a valuation
pub record Operate (xs : List Expr) (v : Valuation) (e w : ℕ) (op : Binary) (o : Operands) : Type 0 where
  pub lhs_below : o.lhs < e
  pub rhs_below : o.rhs < e
  pub carry_below : CarryBelow e o.carry
  pub lhs_wide : op ≡ R.Add → length (word xs v o.lhs) ≡ w
  pub rhs_wide : op ≡ R.Add → length (word xs v o.rhs) ≡ w
  pub gives : word xs v e ≡ cell_word op (word xs v o.lhs) (word xs v o.rhs) (carry_bit (word xs v) o.carry)

-- an operator that is an Add
pub add_only : (op : Binary) → T (is_add (class_of op)) → op ≡ R.Add
add_only R.Add t = refl
add_only R.And t = absurd t
add_only R.Or t = absurd t
add_only R.Xor t = absurd t
add_only R.Sub t = absurd t
add_only R.Mul t = absurd t
add_only R.Equal t = absurd t
add_only R.NotEqual t = absurd t
add_only R.LessU t = absurd t
add_only R.LessS t = absurd t
add_only R.LessEqU t = absurd t
add_only R.LessEqS t = absurd t
add_only R.GreaterU t = absurd t
add_only R.GreaterS t = absurd t
add_only R.GreaterEqU t = absurd t
add_only R.GreaterEqS t = absurd t
add_only R.ShiftL t = absurd t
add_only R.ShiftR t = absurd t
add_only R.ShiftA t = absurd t

none_is : {A : Type 0} {x : A} → ◌≡◌ {A = Option A} none (some x) → ⊥
none_is p = let z : ◌≡◌ {A = ℕ} 0 1 = cc in omega arith

-- `add_operands` answers for an Add only
pub add_kind_law : (k : Kind) (p : ℕ × ℕ) → add_kind k ≡ some p → k ≡ R.Bin R.Add p.0 p.1
add_kind_law (R.Signal s lsb) p q = absurd (none_is q)
add_kind_law (R.Constant n) p q = absurd (none_is q)
add_kind_law (R.Un op a) p q = absurd (none_is q)
add_kind_law (R.Bin op a b) p q = go (is_add (class_of op)) refl q
  where
    go : (t : Bool) → is_add (class_of op) ≡ t → cond t (some (a, b)) none ≡ some p → R.Bin op a b ≡ R.Bin R.Add p.0 p.1
    go true t r = let z : (a, b) ≡ p = cc in rw (← z, add_only op (rw t tt))
    go false t r = absurd (none_is r)
add_kind_law (R.Mux c t e) p q = absurd (none_is q)
add_kind_law (R.Concat ps) p q = absurd (none_is q)
add_kind_law (R.Slice a lsb) p q = absurd (none_is q)

-- an adder of k bits over a and b, filled up with false, gives the word out of width w: also where inner sums wrapped
pub record Narrowed (k w : ℕ) (a b : List Bool) (c : Option Bool) (out : List Bool) : Type 0 where
  pub left : length a ≡ k
  pub right : length b ≡ k
  pub sum : out ≡ cell_word R.Add a b c ++ replicate (w - k) false

pub taken : (k : ℕ) (a : List Bool) → k ≤ length a → length (take k a) ≡ k
taken k a h = length-take k a ∙ omega arith

pub cell_narrow : (k w : ℕ) (a b : List Bool) (c : Option Bool) → length a ≡ w → length b ≡ w → k ≤ w → value (cell_word R.Add a b c) < 2 ^ k
    → Narrowed k w (take k a) (take k b) c (cell_word R.Add a b c)
cell_narrow k w a b none l m h s = record {
  left = taken k a (omega arith);
  right = taken k b (omega arith);
  sum = narrow_add a b k (omega arith) s ∙ rw (l, taken k a (omega arith));
}
cell_narrow k w a b (some c) l m h s = record {
  left = taken k a (omega arith);
  right = taken k b (omega arith);
  sum = narrow_carry a b c k (omega arith) s ∙ rw (l, taken k a (omega arith));
}
