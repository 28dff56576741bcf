-- A module, and the words of its expressions under a valuation of its signals' bits. Assumes nothing.
use Rattle.std.specs.Prelude.{Bool, true, false, not, cond, ◌&&◌, List, [], ◌∷◌, ◌++◌, map, ℕ, zero, suc, ◌+◌, ◌-◌, eqb, leb, ltb, length, get_or}
use Rattle.std.proofs.Math.Option.{Option, none, some}
use Rattle.spec_rtl.specs.Word.{value, bits}
use Rattle.spec_rtl.specs.Ops.{tab, top, not_w, and_w, or_w, xor_w, add_w, sub_w, mul_w, eq_w, lt_u, le_u, lt_s, le_s, shl, shr, any_r, all_r, par_r, join_w, slice_w}
use Rattle.spec_rtl.specs.Table.{entry}

pub data Unary : Type 0 where
  BitNot LogicNot ReduceOr ReduceAnd ReduceXor : Unary

pub data Binary : Type 0 where
  And Or Xor Add Sub Mul Equal NotEqual LessU LessS LessEqU LessEqS GreaterU GreaterS GreaterEqU GreaterEqS ShiftL ShiftR ShiftA : Binary

pub data Kind : Type 0 where
  Signal : ℕ → ℕ → Kind
  Constant : ℕ → Kind
  Un : Unary → ℕ → Kind
  Bin : Binary → ℕ → ℕ → Kind
  Mux : ℕ → ℕ → ℕ → Kind
  Concat : List ℕ → Kind
  Slice : ℕ → ℕ → Kind

pub record Expr : Type 0 where
  pub width : ℕ
  pub kind : Kind

abbrev pub unary : Unary → List Bool → List Bool
unary BitNot a = not_w a
unary LogicNot a = not (any_r a) ∷ []
unary ReduceOr a = any_r a ∷ []
unary ReduceAnd a = all_r a ∷ []
unary ReduceXor a = par_r a ∷ []

abbrev pub binary : Binary → List Bool → List Bool → List Bool
binary And a b = and_w a b
binary Or a b = or_w a b
binary Xor a b = xor_w a b
binary Add a b = add_w a b
binary Sub a b = sub_w a b
binary Mul a b = mul_w a b
binary Equal a b = eq_w a b ∷ []
binary NotEqual a b = not (eq_w a b) ∷ []
binary LessU a b = lt_u a b ∷ []
binary LessS a b = lt_s a b ∷ []
binary LessEqU a b = le_u a b ∷ []
binary LessEqS a b = le_s a b ∷ []
binary GreaterU a b = lt_u b a ∷ []
binary GreaterS a b = lt_s b a ∷ []
binary GreaterEqU a b = le_u b a ∷ []
binary GreaterEqS a b = le_s b a ∷ []
binary ShiftL a b = shl a (value b)
binary ShiftR a b = shr false a (value b)
binary ShiftA a b = shr (top a) a (value b)

-- signals' bits: signal, bit
abbrev pub Valuation : Type 0
Valuation = ℕ → ℕ → Bool

-- the word of one expression, from the words g of the expressions below it
abbrev pub word1 : Valuation → (ℕ → List Bool) → ℕ → Kind → List Bool
word1 v g w (Signal s lsb) = tab w (λ i. v s (lsb + i))
word1 v g w (Constant n) = bits w n
word1 v g w (Un op a) = unary op (g a)
word1 v g w (Bin op a b) = binary op (g a) (g b)
word1 v g w (Mux c t e) = cond (get_or (g c) 0 false) (g t) (g e)
word1 v g w (Concat ps) = join_w (map g ps)
word1 v g w (Slice a lsb) = slice_w lsb w (g a)

abbrev pub rule : Valuation → (ℕ → List Bool) → Expr → List Bool
rule v g x = word1 v g x.width x.kind

abbrev pub word : List Expr → Valuation → ℕ → List Bool
word xs v e = entry [] (rule v) xs e

-- records that drive
pub record Assign : Type 0 where
  pub signal : ℕ
  pub lsb : ℕ
  pub width : ℕ
  pub value : ℕ

pub data Dir : Type 0 where
  Internal Input Output : Dir

pub record Sig : Type 0 where
  pub width : ℕ
  pub dir : Dir

-- a control: its signal, and the level at which it is active
pub record Control : Type 0 where
  pub signal : ℕ
  pub level : Bool

pub record Reset : Type 0 where
  pub control : Control
  pub asynchronous : Bool
  pub value : ℕ

pub record Register : Type 0 where
  pub target : ℕ
  pub next : ℕ
  pub clock : ℕ
  pub rising : Bool
  pub enable : Option Control
  pub reset : Option Reset

pub record Port : Type 0 where
  pub read_address : ℕ
  pub read_data : ℕ
  pub read_enable : Option Control
  pub write_address : ℕ
  pub write_data : ℕ
  pub write_enable : Control
  pub clock : ℕ
  pub rising : Bool

pub record Memory : Type 0 where
  pub depth : ℕ
  pub style : ℕ
  pub first : Port
  pub second : Option Port

pub record Module : Type 0 where
  pub signals : List Sig
  pub exprs : List Expr
  pub assigns : List Assign
  pub registers : List Register
  pub memories : List Memory

-- what drives a signal's bit
pub data Driver : Type 0 where
  FromInput : Driver
  FromRegister : ℕ → Driver
  FromData : ℕ → Bool → Driver
  FromExpr : ℕ → ℕ → Driver
  Nothing : Driver

abbrev pub by_assign : List Assign → ℕ → ℕ → Driver
by_assign [] s i = Nothing
by_assign (a ∷ rest) s i = cond (eqb a.signal s && leb a.lsb i && ltb i (a.lsb + a.width)) (FromExpr a.value (i - a.lsb)) (by_assign rest s i)

abbrev pub of_port : Option Port → ℕ → Bool
of_port none s = false
of_port (some p) s = eqb p.read_data s

abbrev pub by_memory : ℕ → List Memory → ℕ → Driver → Driver
by_memory k [] s d = d
by_memory k (m ∷ ms) s d = cond (eqb m.first.read_data s) (FromData k false) (cond (of_port m.second s) (FromData k true) (by_memory (suc k) ms s d))

abbrev pub by_register_of : ℕ → List Register → ℕ → Driver → Driver
by_register_of k [] s d = d
by_register_of k (r ∷ rs) s d = cond (eqb r.target s) (FromRegister k) (by_register_of (suc k) rs s d)

abbrev pub by_dir : Dir → Driver → Driver
by_dir Internal d = d
by_dir Input d = FromInput
by_dir Output d = d

abbrev pub dir_of : Module → ℕ → Dir
dir_of m s = (get_or m.signals s (record { width = 0; dir = Internal })).dir

abbrev pub driver : Module → ℕ → ℕ → Driver
driver m s i = by_dir (dir_of m s) (by_register_of 0 m.registers s (by_memory 0 m.memories s (by_assign m.assigns s i)))
