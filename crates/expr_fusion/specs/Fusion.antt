-- What the answers of the fusion stand for, and the laws of each function by the way it returns. Assumes nothing.
use Rattle.std.specs.Prelude.{◌≡◌, Bool, true, not, cond, List, [], ◌∷◌, ℕ, ◌+◌, ◌^◌, ◌%◌, ◌≤◌, ◌<◌, min, ltb}
use Rattle.std.specs.Prelude as code
use Rattle.std.specs.Prelude.{Some, None}
use Rattle.std.proofs.Math.Path.{refl, sym}
use Rattle.std.proofs.Common.{◌∙◌, lt→ltb}
use Rattle.std.proofs.Math.Bool.{false}
use Rattle.std.proofs.Math.Option.{Option, none, some}
use Rattle.std.proofs.Math.Nat.{mod-mod}
use native.Mathlib.Omega.{arith}
use Rattle.std.proofs.Math.Dec.{T}
use Rattle.std.proofs.Math.Arith.{le→nltb}
use Rattle.spec_rtl.specs.Rtl as R
use Rattle.spec_tests.specs.Options.{option_of}
use Rattle.spec_tests.specs.Rules.{each, list_of}
use Rattle.spec_rules.specs.Image.{count_at_of, expr_width, list_word, constant_of}
use Rattle.spec_model.specs.Ranges as ranges
use Rattle.spec_model.specs.Lowering as model
use Rattle.spec_model.specs.Lowering.{all_zero, zero_kind, is_zero_expression, carry_parts, carry_kind, carry_lsb, add_operands, operands_of}
use Rattle.image_records.specs.Expr.{kind_means, Decoded}
use Rattle.image_records.specs.declared.Expression.{Expression}
use Rattle.image_records.specs.declared.BinaryOp.{BinaryOp}
use Rattle.image_records.specs.declared.ExprKind.{ExprKind}
use Rattle.image_records.specs.declared.ExprKind.TheVariants as K
use Rattle.word_laws.specs.Shift.{T_true, T_false}
use Rattle.word_laws.specs.Tree.{eqb_no}
use Rattle.word_ranges.specs.Carry.{zero_is}
use Rattle.image_records.specs.OpClass.{op_class_of, adds_of, add_class}
use Rattle.expr_laws.specs.Listed.{below_list_of, onward, onward_all, onward_cons, onward_none}
use Rattle.expr_laws.specs.Exprs.{exprs_of, Readable, in_exprs, width_at_law, width_least, width_read, kind_read, low_read, listed_read}
use Rattle.expr_fusion.specs.declared.ZeroTest.{ZeroTest}
use Rattle.expr_fusion.specs.declared.ZeroTest.TheVariants.{Zero, NotZero, Parts}
use Rattle.expr_fusion.specs.declared.Fused.{Fused}
use Rattle.expr_fusion.specs.declared.Operands.{Operands}

-- ---- what is asked: a readable image, and expressions of it ----

pub record In (s : List ℕ) (e : ℕ) : Type 0 where
  pub readable : Readable s
  pub inside : e < count_at_of s 1

pub record Inside (s : List ℕ) (a b : ℕ) : Type 0 where
  pub readable : Readable s
  pub left : a < count_at_of s 1
  pub right : b < count_at_of s 1

-- the parts that the list words from start on name
abbrev pub parts_of : List ℕ → ℕ → ℕ → List ℕ
parts_of s start n = list_of n (λ i. list_word s (start + i))

pub record InList (s : List ℕ) (start n : ℕ) : Type 0 where
  pub readable : Readable s
  pub room : start + n ≤ 8192
  pub inside : (i : ℕ) → i < n → list_word s (start + i) < count_at_of s 1

-- ---- what the answers stand for ----

abbrev pub zero_of : List ℕ → ZeroTest → Bool
zero_of s Zero = true
zero_of s NotZero = false
zero_of s (Parts start n) = all_zero (is_zero_expression (exprs_of s)) (parts_of s start n)

abbrev pub Falls : List ℕ → ℕ → ZeroTest → Type 0
Falls s e Zero = Unit {0}
Falls s e NotZero = Unit {0}
Falls s e (Parts start n) = (start + n ≤ 8192) × ((i : ℕ) → i < n → list_word s (start + i) < e)

pub record ZeroStep (s : List ℕ) (e : ℕ) (r : ZeroTest) : Type 0 where
  pub same : is_zero_expression (exprs_of s) e ≡ zero_of s r
  pub falls : Falls s e r

-- by the kind of e
abbrev pub carry_by : List ℕ → ℕ → Option ℕ
carry_by s e = carry_kind (exprs_of s) e (ranges.width_at (exprs_of s) e) (ranges.expr_at (exprs_of s) e).kind

abbrev pub sum_by : BinaryOp → ℕ → ℕ → Option (ℕ × ℕ)
sum_by op a b = cond (adds_of (op_class_of op)) (some (a, b)) none

-- a fusion: operands and carry, over what stands without one
abbrev pub fusion_of : code.Option Fused → Option model.Operands
fusion_of (Some f) = some (record { lhs = f.lhs; rhs = f.rhs; carry = some f.carry })
fusion_of None = none

abbrev pub together : Option (ℕ × ℕ) → Option ℕ → Option model.Operands
together none c = none
together (some p) none = none
together (some p) (some c) = some (record { lhs = p.0; rhs = p.1; carry = some c })

abbrev pub fusion_by : List ℕ → ℕ → ℕ → Option model.Operands
fusion_by s a b = together (add_operands (exprs_of s) a) (carry_lsb (exprs_of s) b)

abbrev pub or_else : Option model.Operands → Option model.Operands → Option model.Operands
or_else none o = o
or_else (some p) o = some p

abbrev pub either_side : List ℕ → ℕ → ℕ → Option model.Operands
either_side s a b = or_else (fusion_by s a b) (fusion_by s b a)

abbrev pub shown : Operands → model.Operands
shown r = record { lhs = r.lhs; rhs = r.rhs; carry = option_of r.carry }

-- ---- by the kind of an expression that was read ----

-- neither a constant nor a Concat; not an operator of two sides
abbrev pub plain_kind : ExprKind → Bool
plain_kind (K.Signal p lsb) = true
plain_kind (K.Constant start) = false
plain_kind (K.Unary op a) = true
plain_kind (K.Binary op a b) = true
plain_kind (K.Mux c t e) = true
plain_kind (K.Concat start n) = false
plain_kind (K.Slice a lsb) = true

abbrev pub one_sided : ExprKind → Bool
one_sided (K.Signal p lsb) = true
one_sided (K.Constant start) = true
one_sided (K.Unary op a) = true
one_sided (K.Binary op a b) = false
one_sided (K.Mux c t e) = true
one_sided (K.Concat start n) = true
one_sided (K.Slice a lsb) = true

constant_mod : (s : List ℕ) (w start : ℕ) → constant_of s w start % 2 ^ w ≡ constant_of s w start
unfolding constant_of
constant_mod s w start = mod-mod _ (2 ^ w)

module _ (s : List ℕ) (e : ℕ) (i : In s e) (x : Expression) (d : Decoded s e x) where
  width_is : x.width ≡ expr_width s e
  width_is = width_read s i.readable e i.inside x d

  -- the constant that was read, as the model asks for it
  constant_read : (start : ℕ) → constant_of s x.width start % 2 ^ expr_width s e ≡ constant_of s x.width start
  constant_read start = rw width_is (constant_mod s (expr_width s e) start)

  zero_read : is_zero_expression (exprs_of s) e ≡ zero_kind (is_zero_expression (exprs_of s)) (expr_width s e) (kind_means s x.width x.kind)
  zero_read = zero_is (exprs_of s) i.readable.formed e (in_exprs s i.readable e i.inside)
      ∙ rw (width_at_law s i.readable e i.inside, kind_read s i.readable e i.inside x d)

  pub zero_constant : (start r : ℕ) → x.kind ≡ K.Constant start → r ≡ min (constant_of s x.width start) 2 → r ≡ 0 → ZeroStep s e Zero
  unfolding kind_means
  zero_constant start r k m z =
      let n : constant_of s x.width start ≡ 0 = omega arith in
      record { same = zero_read ∙ rw (k, constant_read start, n); falls = tt }

  pub other_constant : (start r : ℕ) → x.kind ≡ K.Constant start → r ≡ min (constant_of s x.width start) 2 → (r ≡ 0 → ⊥) → ZeroStep s e NotZero
  unfolding kind_means
  other_constant start r k m z = record { same = zero_read ∙ rw (k, constant_read start) (sym (eqb_no (constant_of s x.width start) 0 (λ n. z (omega arith)))); falls = tt }

  pub zero_parts : (start n : ℕ) → x.kind ≡ K.Concat start n → ZeroStep s e (Parts start n)
  unfolding kind_means
  zero_parts start n k = record {
    same = zero_read ∙ rw k;
    falls = (rw k at (listed_read s i.readable e i.inside x d), λ j l. below_list_of e n (λ j. list_word s (start + j)) j (rw k at (low_read s i.readable e i.inside x d)) l);
  }

  pub zero_other : {k : ExprKind} → x.kind ≡ k → T (plain_kind k) → ZeroStep s e NotZero
  unfolding kind_means
  zero_other {k} q t = record { same = zero_read ∙ rw q (go k t); falls = tt }
    where
      go : (k : ExprKind) → T (plain_kind k) → zero_kind (is_zero_expression (exprs_of s)) (expr_width s e) (kind_means s x.width k) ≡ false
      go (K.Signal p lsb) t = refl
      go (K.Constant start) t = absurd t
      go (K.Unary op a) t = refl
      go (K.Binary op a b) t = refl
      go (K.Mux a b c) t = refl
      go (K.Concat start n) t = absurd t
      go (K.Slice a lsb) t = refl

  -- what `constant` asks
  pub constant_asked : (start : ℕ) → x.kind ≡ K.Constant start → (1 ≤ x.width) × (x.width ≤ 1024) × (start ≤ 8192)
  constant_asked start k =
      let l = rw k at (listed_read s i.readable e i.inside x d) in
      let a = width_least s i.readable e i.inside in
      let b = i.readable.most e i.inside in
      rw width_is (omega arith)

  carry_read : carry_by s e ≡ carry_kind (exprs_of s) e (expr_width s e) (kind_means s x.width x.kind)
  carry_read = rw (width_at_law s i.readable e i.inside, kind_read s i.readable e i.inside x d)

  pub carry_constant : (start r : ℕ) → x.kind ≡ K.Constant start → r ≡ min (constant_of s x.width start) 2 → r < 2 → some e ≡ carry_by s e
  unfolding kind_means
  carry_constant start r k m l = sym (carry_read ∙ rw (k, constant_read start, T_true (ltb (constant_of s x.width start) 2) (lt→ltb (constant_of s x.width start) 2 (omega arith))))

  pub carry_large : (start r : ℕ) → x.kind ≡ K.Constant start → r ≡ min (constant_of s x.width start) 2 → 2 ≤ r → none ≡ carry_by s e
  unfolding kind_means
  carry_large start r k m l = sym (carry_read ∙ rw (k, constant_read start, T_false (ltb (constant_of s x.width start) 2) (le→nltb (constant_of s x.width start) 2 (omega arith))))

  pub carry_concat : (start n : ℕ) → x.kind ≡ K.Concat start n → carry_parts (exprs_of s) (parts_of s start n) ≡ carry_by s e
  unfolding kind_means
  carry_concat start n k = sym (carry_read ∙ rw k)

  pub concat_asked : (start n : ℕ) → x.kind ≡ K.Concat start n → InList s start n
  concat_asked start n k =
      let z = (zero_parts start n k).falls in
      record { readable = i.readable; room = z.0; inside = λ j l. let y = z.1 j l in omega (arith, i.inside) }

  pub carry_other : {k : ExprKind} → x.kind ≡ k → T (plain_kind k) → none ≡ carry_by s e
  unfolding kind_means
  carry_other {k} q t = sym (carry_read ∙ rw q (go k t))
    where
      go : (k : ExprKind) → T (plain_kind k) → carry_kind (exprs_of s) e (expr_width s e) (kind_means s x.width k) ≡ none
      go (K.Signal p lsb) t = refl
      go (K.Constant start) t = absurd t
      go (K.Unary op a) t = refl
      go (K.Binary op a b) t = refl
      go (K.Mux a b c) t = refl
      go (K.Concat start n) t = absurd t
      go (K.Slice a lsb) t = refl

  sum_read : add_operands (exprs_of s) e ≡ model.add_kind (kind_means s x.width x.kind)
  unfolding add_operands
  sum_read = rw (kind_read s i.readable e i.inside x d)

  pub sum_binary : {op : BinaryOp} {a b : ℕ} → x.kind ≡ K.Binary op a b → sum_by op a b ≡ add_operands (exprs_of s) e
  unfolding kind_means
  sum_binary {op} q = sym (sum_read ∙ rw (q, add_class op))

  pub sum_other : {k : ExprKind} → x.kind ≡ k → T (one_sided k) → none ≡ add_operands (exprs_of s) e
  unfolding kind_means
  sum_other {k} q t = sym (sum_read ∙ rw q (go k t))
    where
      go : (k : ExprKind) → T (one_sided k) → model.add_kind (kind_means s x.width k) ≡ none
      go (K.Signal p lsb) t = refl
      go (K.Constant start) t = refl
      go (K.Unary op a) t = refl
      go (K.Binary op a b) t = absurd t
      go (K.Mux a b c) t = refl
      go (K.Concat start n) t = refl
      go (K.Slice a lsb) t = refl

pub not_true : (b : Bool) → not b ≡ true → b ≡ false
not_true true e = sym e
not_true false e = refl

pub not_false : (b : Bool) → not b ≡ false → b ≡ true
not_false true e = refl
not_false false e = sym e

-- ---- parts from one on ----

abbrev pub from : List ℕ → ℕ → ℕ → ℕ → List ℕ
from s start n i = onward (λ j. list_word s (start + j)) n i

from_all : (s : List ℕ) (start n : ℕ) → parts_of s start n ≡ from s start n 0
from_all s start n = onward_all (λ j. list_word s (start + j)) n

from_cons : (s : List ℕ) (start n i : ℕ) → i < n → from s start n i ≡ list_word s (start + i) ∷ from s start n (i + 1)
from_cons s start n i h = onward_cons (λ j. list_word s (start + j)) n i h

from_none : (s : List ℕ) (start n i : ℕ) → n ≤ i → from s start n i ≡ []
from_none s start n i h = onward_none (λ j. list_word s (start + j)) n i h

-- the answer for e is that of the parts from i on
abbrev pub ZeroFrom : List ℕ → ℕ → ℕ → ℕ → ℕ → Type 0
ZeroFrom s e start n i = is_zero_expression (exprs_of s) e ≡ all_zero (is_zero_expression (exprs_of s)) (from s start n i)

module _ (s : List ℕ) (e start n : ℕ) where
  pub zero_begins : ZeroStep s e (Parts start n) → ZeroFrom s e start n 0
  zero_begins z = z.same ∙ rw (from_all s start n)

  pub zero_passes : (i : ℕ) → i < n → ZeroFrom s e start n i → is_zero_expression (exprs_of s) (list_word s (start + i)) ≡ true → ZeroFrom s e start n (i + 1)
  zero_passes i h z t = z ∙ rw (from_cons s start n i h, t)

  pub zero_stops : (i : ℕ) → i < n → ZeroFrom s e start n i → is_zero_expression (exprs_of s) (list_word s (start + i)) ≡ false → false ≡ is_zero_expression (exprs_of s) e
  zero_stops i h z t = sym (z ∙ rw (from_cons s start n i h, t))

  pub zero_ends : (i : ℕ) → n ≤ i → ZeroFrom s e start n i → true ≡ is_zero_expression (exprs_of s) e
  zero_ends i h z = sym (z ∙ rw (from_none s start n i h))

abbrev pub CarryFrom : List ℕ → ℕ → ℕ → ℕ → Type 0
CarryFrom s start n i = carry_parts (exprs_of s) (parts_of s start n) ≡ carry_parts (exprs_of s) (from s start n i)

module _ (s : List ℕ) (start n : ℕ) where
  pub carry_none : n ≡ 0 → none ≡ carry_parts (exprs_of s) (parts_of s start n)
  unfolding list_of each
  carry_none z = rw z

  pub carry_begins : CarryFrom s start n 0
  carry_begins = rw (from_all s start n)

  two_more : (i : ℕ) → i + 1 < n → from s start n i ≡ list_word s (start + i) ∷ list_word s (start + (i + 1)) ∷ from s start n (i + 1 + 1)
  two_more i h = from_cons s start n i (omega arith) ∙ rw (from_cons s start n (i + 1) h)

  pub carry_passes : (i : ℕ) → i + 1 < n → CarryFrom s start n i → is_zero_expression (exprs_of s) (list_word s (start + i)) ≡ true → CarryFrom s start n (i + 1)
  carry_passes i h z t = z ∙ rw (two_more i h, t, from_cons s start n (i + 1) h)

  pub carry_stops : (i : ℕ) → i + 1 < n → CarryFrom s start n i → is_zero_expression (exprs_of s) (list_word s (start + i)) ≡ false → none ≡ carry_parts (exprs_of s) (parts_of s start n)
  carry_stops i h z t = sym (z ∙ rw (two_more i h, t))

  one_left : (i : ℕ) → i + 1 ≡ n → from s start n i ≡ list_word s (start + i) ∷ []
  one_left i h = from_cons s start n i (omega arith) ∙ rw (from_none s start n (i + 1) (omega arith))

  module _ (g : InList s start n) (i l p : ℕ) (e : i ≡ l) (h : l + 1 ≡ n) (z : CarryFrom s start n i) (q : p ≡ list_word s (start + l)) where
    width_of : ranges.width_at (exprs_of s) p ≡ expr_width s p
    width_of = width_at_law s g.readable p (let y = g.inside l (omega arith) in omega arith)

    here : carry_parts (exprs_of s) (parts_of s start n) ≡ carry_parts (exprs_of s) (p ∷ [])
    here = z ∙ rw (e, one_left l h, ← q)

    pub carry_last : expr_width s p ≡ 1 → some p ≡ carry_parts (exprs_of s) (parts_of s start n)
    carry_last w = sym (here ∙ rw (width_of, w))

    pub carry_wide : (expr_width s p ≡ 1 → ⊥) → none ≡ carry_parts (exprs_of s) (parts_of s start n)
    carry_wide w = sym (here ∙ rw (width_of, ← eqb_no (expr_width s p) 1 w))

-- ---- `carry_lsb` and the fusion ----

pub carry_bit_law : (s : List ℕ) (e : ℕ) → In s e → expr_width s e ≡ 1 → some e ≡ carry_lsb (exprs_of s) e
unfolding carry_lsb
carry_bit_law s e i w = rw (width_at_law s i.readable e i.inside, w)

pub carry_kind_law : (s : List ℕ) (e : ℕ) → In s e → (expr_width s e ≡ 1 → ⊥) → carry_by s e ≡ carry_lsb (exprs_of s) e
unfolding carry_lsb
carry_kind_law s e i w = rw (width_at_law s i.readable e i.inside, ← eqb_no (expr_width s e) 1 w)

abbrev pub or_plain : Option model.Operands → ℕ → ℕ → model.Operands
or_plain none a b = record { lhs = a; rhs = b; carry = none }
or_plain (some o) a b = o

pub operands_are : (s : List ℕ) (a b : ℕ) → or_plain (either_side s a b) a b ≡ operands_of (exprs_of s) R.Add a b
unfolding operands_of
operands_are s a b = go (add_operands (exprs_of s) a) (carry_lsb (exprs_of s) b) (add_operands (exprs_of s) b) (carry_lsb (exprs_of s) a)
  where
    go : (p : Option (ℕ × ℕ)) (c : Option ℕ) (q : Option (ℕ × ℕ)) (d : Option ℕ)
        → or_plain (or_else (together p c) (together q d)) a b ≡ model.fused p c (model.fused q d (record { lhs = a; rhs = b; carry = none }))
    go none c none d = refl
    go none c (some q) none = refl
    go none c (some q) (some d) = refl
    go (some p) none none d = refl
    go (some p) none (some q) none = refl
    go (some p) none (some q) (some d) = refl
    go (some p) (some c) q d = refl
