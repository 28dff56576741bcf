-- An expression's bit that has a net, from the nets below it: what its kind's builder call gives of them at the present netlist, making nothing. There is
-- at most one such net. Assumes nothing.
use Rattle.std.specs.Prelude.{◌≡◌, refl, ◌⊎◌, Bool, true, false, cond, not, List, [], ◌∷◌, ℕ, ◌+◌, ◌-◌, ◌≤◌, ◌<◌, length, get_or}
use Rattle.std.proofs.Common.{sym, ap, ap₂, ◌∙◌, inl, inr, arith}
use Rattle.std.proofs.Math.Option.{Option, none, some}
use Rattle.std.proofs.Math.ListN.{get_elem?}
use Rattle.spec_rtl.specs.Word.{bits}
use Rattle.spec_rtl.specs.Rtl as R
use Rattle.spec_rtl.specs.Rtl.{Module, Kind, Unary, Binary}
use Rattle.spec_model.specs.Words.{Netlist, absent}
use Rattle.spec_model.specs.Builder as B
use Rattle.spec_model.specs.Builder.{done, Made, constant_value, add_constant, add_not, add_mux}
use Rattle.spec_model.specs.WordCells.{arithmetic}
use Rattle.spec_model.specs.Ranges.{expr_at, width_at, class_of, Gate, adder_width}
use Rattle.spec_model.specs.Lowering.{add_gate, is_add, is_bit_not, gate_of, Operands, operands_of, backwards, lower_unary, lower_binary, truncated, resized}
use Rattle.law_walk.specs.Tables.{some_eq}
use Rattle.law_memo.specs.Along.{Along, Single, along_same}
use Rattle.law_memo.specs.Repeated.{answer_eq, From, From2}

-- ---- the kinds that are lowered only as a whole ----

abbrev pub gateless : Option Gate → Bool
gateless none = true
gateless (some g) = false

abbrev pub only_whole : Kind → Bool
only_whole (R.Signal s lsb) = false
only_whole (R.Constant n) = false
only_whole (R.Un op a) = not (is_bit_not op)
only_whole (R.Bin op a b) = gateless (gate_of (class_of op))
only_whole (R.Mux c t f) = false
only_whole (R.Concat ps) = false
only_whole (R.Slice a lsb) = false

-- ---- the operators, of lists of nets ----

-- the width that an Add is narrowed to
abbrev pub narrow_to : List R.Expr → ℕ → Binary → Option ℕ
narrow_to xs e op = cond (is_add (class_of op)) (adder_width xs e) none

abbrev pub cell_of : Binary → Option ℕ → List ℕ → List ℕ → Option ℕ → Netlist → Made (List ℕ)
cell_of op n xs ys none l = lower_binary op (truncated n xs) (truncated n ys) l
cell_of op n xs ys (some c) l = arithmetic B.Add (truncated n xs) (truncated n ys) (some c) l

abbrev pub binary_of : List R.Expr → ℕ → Binary → List ℕ → List ℕ → Option ℕ → Netlist → Made (List ℕ)
binary_of es e op xs ys c l = resized (narrow_to es e op) (width_at es e) (cell_of op (narrow_to es e op) xs ys c l)

-- the side that a Mux takes alone, by the flag
abbrev pub side_of : Bool → Option Bool → Option Bool
side_of false o = none
side_of true o = o

-- bit b of a list that is made, where nothing is made
pub record OfAll (o : Made (List ℕ)) (l : Netlist) (b n : ℕ) : Type 0 where
  pub all : List ℕ
  pub made : o ≡ done (all, l)
  pub at : get_elem? all b ≡ some n

pub all_single : {o : Made (List ℕ)} {l : Netlist} → Single (OfAll o l)
all_single b n k p q = some_eq (sym p.at ∙ ap (λ (ns : List ℕ). get_elem? ns b) (answer_eq (sym p.made ∙ q.made)) ∙ q.at)

-- nets of expressions and of signal bits: what the state's tables hold
abbrev pub Tables : Type 0
Tables = ℕ → ℕ → Option ℕ

module _ (m : Module) (net : Tables) where
  abbrev pub Net : ℕ → ℕ → ℕ → Type 0
  Net e b n = net e b ≡ some n

  pub net_single : (e : ℕ) → Single (Net e)
  net_single e b n k p q = some_eq (sym p ∙ q)

  -- all nets of expression e
  pub record Nets (e : ℕ) (ns : List ℕ) : Type 0 where
    pub wide : length ns ≡ width_at m.exprs e
    pub are : Along (Net e) 0 ns

  pub nets_same : {e : ℕ} {ns ks : List ℕ} → Nets e ns → Nets e ks → ns ≡ ks
  nets_same {e} {ns} {ks} a b = along_same (Net e) (net_single e) 0 ns ks (a.wide ∙ sym b.wide) a.are b.are

  -- the carry's net is the first of its expression
  pub record CarryNet (c n : ℕ) : Type 0 where
    pub all : List ℕ
    pub nets : Nets c all
    pub first : get_or all 0 absent ≡ n

  abbrev pub Carry : Option ℕ → Option ℕ → Type 0
  Carry none none = Unit {0}
  Carry none (some n) = ⊥
  Carry (some c) none = ⊥
  Carry (some c) (some n) = CarryNet c n

  pub carry_same : (c n k : Option ℕ) → Carry c n → Carry c k → n ≡ k
  carry_same none none none p q = refl
  carry_same none none (some k) p q = absurd q
  carry_same none (some n) k p q = absurd p
  carry_same (some c) none k p q = absurd p
  carry_same (some c) (some n) none p q = absurd q
  carry_same (some c) (some n) (some k) p q =
      ap some (sym p.first ∙ ap (λ (ns : List ℕ). get_or ns 0 absent) (nets_same p.nets q.nets) ∙ q.first)

-- ---- by kind ----

module _ (m : Module) (ob : Bool) (l : Netlist) (sig net : Tables) where
  pub record OfUnary (op : Unary) (a b n : ℕ) : Type 0 where
    pub xs : List ℕ
    pub nets : Nets m net a xs
    pub gives : OfAll (lower_unary op xs l) l b n

  abbrev pub UnBit : Bool → Unary → ℕ → ℕ → ℕ → Type 0
  UnBit true op a b n = From (Net m net a b) add_not l n
  UnBit false op a b n = OfUnary op a b n

  pub record OfBinary (e : ℕ) (op : Binary) (o : Operands) (b n : ℕ) : Type 0 where
    pub xs : List ℕ
    pub ys : List ℕ
    pub carry : Option ℕ
    pub left : Nets m net o.lhs xs
    pub right : Nets m net o.rhs ys
    pub with : Carry m net o.carry carry
    pub gives : OfAll (binary_of m.exprs e op xs ys carry l) l b n

  abbrev pub BinBit : Option Gate → ℕ → Binary → ℕ → ℕ → ℕ → ℕ → Type 0
  BinBit (some g) e op x y b n = From2 (Net m net x b) (Net m net y b) (add_gate g) l n
  BinBit none e op x y b n = OfBinary e op (operands_of m.exprs op x y) b n

  abbrev pub MuxBit : Option Bool → ℕ → ℕ → ℕ → ℕ → ℕ → Type 0
  MuxBit (some v) c t f b n = Net m net (cond v t f) b n
  MuxBit none c t f b n = From2 (Net m net t b) (Net m net f b) (add_mux c) l n

  pub record OfMux (c t f b n : ℕ) : Type 0 where
    pub test : ℕ
    pub is : Net m net c 0 test
    pub gives : MuxBit (side_of ob (constant_value l test)) test t f b n

  -- the parts of a Concat, the least significant first
  abbrev pub PartBit : List ℕ → ℕ → ℕ → Type 0
  PartBit [] b n = ⊥
  PartBit (p ∷ ps) b n = ((b < width_at m.exprs p) × Net m net p b n) ⊎ ((width_at m.exprs p ≤ b) × PartBit ps (b - width_at m.exprs p) n)

  abbrev pub KindBit : Kind → ℕ → ℕ → ℕ → Type 0
  KindBit (R.Signal s lsb) e b n = sig s (lsb + b) ≡ some n
  KindBit (R.Constant c) e b n = From (λ v. get_elem? (bits (width_at m.exprs e) c) b ≡ some v) add_constant l n
  KindBit (R.Un op a) e b n = UnBit (is_bit_not op) op a b n
  KindBit (R.Bin op x y) e b n = BinBit (gate_of (class_of op)) e op x y b n
  KindBit (R.Mux c t f) e b n = OfMux c t f b n
  KindBit (R.Concat ps) e b n = PartBit (backwards ps []) b n
  KindBit (R.Slice a lsb) e b n = Net m net a (lsb + b) n

  -- net n is that of bit b of expression e
  abbrev pub Derived : ℕ → ℕ → ℕ → Type 0
  Derived e b n = KindBit (expr_at m.exprs e).kind e b n

  -- ---- there is one ----

  from_single : {A : Type 0} (P : ℕ → A → Type 0) → Single P → (f : A → Netlist → Made ℕ) → Single (λ b n. From (P b) f l n)
  from_single {A} P s f b n k p q = answer_eq (sym p.made ∙ ap (λ (x : A). f x l) (s b p.x q.x p.here q.here) ∙ q.made)

  from2_single : (P Q : ℕ → ℕ → Type 0) → Single P → Single Q → (f : ℕ → ℕ → Netlist → Made ℕ) → Single (λ b n. From2 (P b) (Q b) f l n)
  from2_single P Q s t f b n k p q =
      answer_eq (sym p.made ∙ ap₂ (λ (x y : ℕ). f x y l) (s b p.x q.x p.left q.left) (t b p.y q.y p.right q.right) ∙ q.made)

  un_single : (t : Bool) (op : Unary) (a : ℕ) → Single (UnBit t op a)
  un_single true op a b n k p q = from_single (Net m net a) (net_single m net a) add_not b n k p q
  un_single false op a b n k p q =
      all_single b n k p.gives (rw (nets_same m net p.nets q.nets) q.gives)

  bin_single : (g : Option Gate) (e : ℕ) (op : Binary) (x y : ℕ) → Single (BinBit g e op x y)
  bin_single (some g) e op x y b n k p q = from2_single (Net m net x) (Net m net y) (net_single m net x) (net_single m net y) (add_gate g) b n k p q
  bin_single none e op x y b n k p q =
      all_single b n k p.gives (rw (nets_same m net p.left q.left, nets_same m net p.right q.right, carry_same m net (operands_of m.exprs op x y).carry p.carry q.carry p.with q.with) q.gives)

  mux_single : (o : Option Bool) (c t f : ℕ) → Single (MuxBit o c t f)
  mux_single (some v) c t f b n k p q = net_single m net (cond v t f) b n k p q
  mux_single none c t f b n k p q = from2_single (Net m net t) (Net m net f) (net_single m net t) (net_single m net f) (add_mux c) b n k p q

  part_single : (ps : List ℕ) → Single (PartBit ps)
  part_single [] b n k p q = absurd p
  part_single (x ∷ ps) b n k (inl p) (inl q) = net_single m net x b n k p.1 q.1
  part_single (x ∷ ps) b n k (inl p) (inr q) = absurd (omega (arith, p.0, q.0))
  part_single (x ∷ ps) b n k (inr p) (inl q) = absurd (omega (arith, p.0, q.0))
  part_single (x ∷ ps) b n k (inr p) (inr q) = part_single ps (b - width_at m.exprs x) n k p.1 q.1

  pub kind_single : (k : Kind) (e : ℕ) → Single (KindBit k e)
  kind_single (R.Signal s lsb) e b n k p q = some_eq (sym p ∙ q)
  kind_single (R.Constant c) e b n k p q =
      from_single (λ i v. get_elem? (bits (width_at m.exprs e) c) i ≡ some v) (λ i v u x y. some_eq (sym x ∙ y)) add_constant b n k p q
  kind_single (R.Un op a) e b n k p q = un_single (is_bit_not op) op a b n k p q
  kind_single (R.Bin op x y) e b n k p q = bin_single (gate_of (class_of op)) e op x y b n k p q
  kind_single (R.Mux c t f) e b n k p q =
      let z : p.test ≡ q.test = some_eq (sym p.is ∙ q.is) in
      mux_single (side_of ob (constant_value l p.test)) p.test t f b n k p.gives (rw z q.gives)
  kind_single (R.Concat ps) e b n k p q = part_single (backwards ps []) b n k p q
  kind_single (R.Slice a lsb) e b n k p q = net_single m net a (lsb + b) n k p q

  pub derived_single : (e : ℕ) → Single (Derived e)
  derived_single e = kind_single (expr_at m.exprs e).kind e
