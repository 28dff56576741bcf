-- What an expression record that breaks no rule tells, kind by kind: `good_expr`.
use Rattle.std.specs.Prelude.{ℕ, ◌+◌, ◌≤◌, ◌<◌, Bool, true, false, List, ◌≡◌, refl}
use Rattle.std.proofs.Common.{true≢false, ◌∙◌, arith}
use Rattle.spec_tests.specs.Rules.{◌<?◌, first, sum_to}
use Rattle.spec_tests.specs.Laws.{or_no, no_lt, yes_lt, no_eq, no_ne, lt_yes, lt_no, eq_yes, eq_no, not_any, none, inside}
use Rattle.spec_rules.specs.Image.{count_at_of, field, list_word, signal_width, expr_width, constant_words}
use Rattle.spec_rules.specs.Checks.{late, bad_unary, bad_binary, bad_concat, bad_kind, bad_expr}
use Rattle.check_references.specs.Tests.{not_no, pick_yes, pick_no}
use Rattle.check_references.specs.Good.{is_signal}
use Rattle.check_expressions.specs.Kinds.{bad_read, bad_constant, bad_unary_of, bad_binary_of, bad_mux, bad_concat_of, bad_slice, kind_read, kind_constant, kind_unary, kind_binary, kind_mux, kind_concat, kind_slice, kind_none}

-- a reading of w bits of signal a from bit b on
pub record GoodRead (s : List ℕ) (w a b c : ℕ) : Type 0 where
  pub there : a < count_at_of s 0
  pub room : b + w ≤ signal_width s a
  pub unused : c ≡ 0

pub record GoodConstant (s : List ℕ) (w a b c : ℕ) : Type 0 where
  pub room : a + constant_words w ≤ count_at_of s 2
  pub unused_b : b ≡ 0
  pub unused_c : c ≡ 0

-- operator a (0 is BitNot) of operand b
pub record GoodUnary (s : List ℕ) (r w a b c : ℕ) : Type 0 where
  pub operator : a ≤ 4
  pub lower : b < r
  pub same : a ≡ 0 → expr_width s b ≡ w
  pub one : 1 ≤ a → w ≡ 1
  pub unused : c ≡ 0

-- operator a of operands b and c: below 6 both have the width, below 16 they are compared, the others are shifts of b
pub record GoodBinary (s : List ℕ) (r w a b c : ℕ) : Type 0 where
  pub operator : a ≤ 18
  pub left : b < r
  pub right : c < r
  pub same : a < 6 → (expr_width s b ≡ w) × (expr_width s c ≡ w)
  pub compared : 6 ≤ a → a < 16 → (w ≡ 1) × (expr_width s b ≡ expr_width s c)
  pub shifted : 16 ≤ a → expr_width s b ≡ w

-- condition a, branches b and c
pub record GoodMux (s : List ℕ) (r w a b c : ℕ) : Type 0 where
  pub condition : a < r
  pub left : b < r
  pub right : c < r
  pub one : expr_width s a ≡ 1
  pub same_left : expr_width s b ≡ w
  pub same_right : expr_width s c ≡ w

-- the b list words from a on are the parts
pub record GoodConcat (s : List ℕ) (r w a b c : ℕ) : Type 0 where
  pub part : 1 ≤ b
  pub room : a + b ≤ count_at_of s 2
  pub lower : (i : ℕ) → i < b → list_word s (a + i) < r
  pub sum : sum_to (λ i. expr_width s (list_word s (a + i))) b ≡ w
  pub unused : c ≡ 0

-- w bits of operand a from bit b on
pub record GoodSlice (s : List ℕ) (r w a b c : ℕ) : Type 0 where
  pub lower : a < r
  pub room : b + w ≤ expr_width s a
  pub unused : c ≡ 0

-- record r of kind k
pub record GoodKind (s : List ℕ) (r k w a b c : ℕ) : Type 0 where
  pub known : k ≤ 6
  pub read : k ≡ 0 → GoodRead s w a b c
  pub constant : k ≡ 1 → GoodConstant s w a b c
  pub unary : k ≡ 2 → GoodUnary s r w a b c
  pub binary : k ≡ 3 → GoodBinary s r w a b c
  pub mux : k ≡ 4 → GoodMux s r w a b c
  pub concat : k ≡ 5 → GoodConcat s r w a b c
  pub slice : k ≡ 6 → GoodSlice s r w a b c

pub record GoodExpr (s : List ℕ) (r : ℕ) : Type 0 where
  pub least : 1 ≤ expr_width s r
  pub most : expr_width s r ≤ 1024
  pub sum : sum_to (expr_width s) (r + 1) ≤ 32768
  pub kind : GoodKind s r (field s 1 r 0) (expr_width s r) (field s 1 r 2) (field s 1 r 3) (field s 1 r 4)

-- ---- what a failed test tells ----

pub not_late : (r e : ℕ) → late r e ≡ false → e < r
unfolding late
not_late r e h = yes_lt e r (not_no h)

-- ---- each kind ----

good_read : (s : List ℕ) (w a b c : ℕ) → bad_read s w a b c ≡ false → GoodRead s w a b c
unfolding bad_read
good_read s w a b c e = record {
  there = is_signal s a (or_no e).0;
  room = no_lt _ _ (or_no (or_no e).1).0;
  unused = no_ne _ _ (or_no (or_no e).1).1;
}

good_constant : (s : List ℕ) (w a b c : ℕ) → bad_constant s w a b c ≡ false → GoodConstant s w a b c
unfolding bad_constant
good_constant s w a b c e = record {
  room = no_lt _ _ (or_no e).0;
  unused_b = no_ne _ _ (or_no (or_no e).1).0;
  unused_c = no_ne _ _ (or_no (or_no e).1).1;
}

good_unary : (s : List ℕ) (r w a b c : ℕ) → bad_unary_of s r w a b c ≡ false → GoodUnary s r w a b c
unfolding bad_unary_of bad_unary
good_unary s r w a b c e =
    let o = or_no (or_no (or_no e).1).0 in
    record {
      operator = no_lt _ _ o.0;
      lower = not_late r b (or_no e).0;
      same = λ h. no_ne _ _ (pick_yes _ (eq_yes _ _ h) o.1);
      one = λ h. no_ne _ _ (pick_no _ (eq_no _ _ (λ z. omega arith)) o.1);
      unused = no_ne _ _ (or_no (or_no e).1).1;
    }

good_binary : (s : List ℕ) (r w a b c : ℕ) → bad_binary_of s r w a b c ≡ false → GoodBinary s r w a b c
unfolding bad_binary_of bad_binary
good_binary s r w a b c e =
    let o = or_no (or_no (or_no e).1).1 in
    record {
      operator = no_lt _ _ o.0;
      left = not_late r b (or_no e).0;
      right = not_late r c (or_no (or_no e).1).0;
      same = λ h. let q = or_no (pick_yes _ (lt_yes _ _ h) o.1) in (no_ne _ _ q.0, no_ne _ _ q.1);
      compared = λ h l. let q = or_no (pick_yes _ (lt_yes _ _ l) (pick_no _ (lt_no _ _ h) o.1)) in (no_ne _ _ q.0, no_ne _ _ q.1);
      shifted = λ h. no_ne _ _ (pick_no _ (lt_no _ _ h) (pick_no _ (lt_no _ _ (omega arith)) o.1));
    }

good_mux : (s : List ℕ) (r w a b c : ℕ) → bad_mux s r w a b c ≡ false → GoodMux s r w a b c
unfolding bad_mux
good_mux s r w a b c e =
    let f = or_no (or_no e).1 in
    let g = or_no f.1 in
    let h = or_no g.1 in
    let i = or_no h.1 in
    record {
      condition = not_late r a (or_no e).0;
      left = not_late r b f.0;
      right = not_late r c g.0;
      one = no_ne _ _ h.0;
      same_left = no_ne _ _ i.0;
      same_right = no_ne _ _ i.1;
    }

good_concat : (s : List ℕ) (r w a b c : ℕ) → bad_concat_of s r w a b c ≡ false → GoodConcat s r w a b c
unfolding bad_concat_of bad_concat
good_concat s r w a b c e =
    let f = or_no (or_no e).0 in
    let g = or_no f.1 in
    let h = or_no g.1 in
    let z = no_eq _ _ f.0 in
    record {
      part = omega arith;
      room = no_lt _ _ g.0;
      lower = λ i l. not_late r (list_word s (a + i)) (not_any _ _ h.0 i l);
      sum = no_ne _ _ h.1;
      unused = no_ne _ _ (or_no e).1;
    }

good_slice : (s : List ℕ) (r w a b c : ℕ) → bad_slice s r w a b c ≡ false → GoodSlice s r w a b c
unfolding bad_slice
good_slice s r w a b c e = record {
  lower = not_late r a (or_no e).0;
  room = no_lt _ _ (or_no (or_no e).1).0;
  unused = no_ne _ _ (or_no (or_no e).1).1;
}

-- ---- the whole ----

good_kind : (s : List ℕ) (r k w a b c : ℕ) → bad_kind s r k w a b c ≡ false → GoodKind s r k w a b c
good_kind s r k w a b c e = record {
  known = go (6 <? k) refl;
  read = λ h. good_read s w a b c (kind_read s r k w a b c h ∙ e);
  constant = λ h. good_constant s w a b c (kind_constant s r k w a b c h ∙ e);
  unary = λ h. good_unary s r w a b c (kind_unary s r k w a b c h ∙ e);
  binary = λ h. good_binary s r w a b c (kind_binary s r k w a b c h ∙ e);
  mux = λ h. good_mux s r w a b c (kind_mux s r k w a b c h ∙ e);
  concat = λ h. good_concat s r w a b c (kind_concat s r k w a b c h ∙ e);
  slice = λ h. good_slice s r w a b c (kind_slice s r k w a b c h ∙ e);
}
  where
    go : (t : Bool) → (6 <? k) ≡ t → k ≤ 6
    go true q = absurd (true≢false (kind_none s r k w a b c (yes_lt 6 k q) ∙ e))
    go false q = no_lt 6 k q

pub good_expr : (s : List ℕ) (r : ℕ) → bad_expr s r ≡ false → GoodExpr s r
unfolding bad_expr
good_expr s r e =
    let o = inside _ _ _ (or_no e).0 in
    record {
      least = o.0;
      most = o.1;
      sum = no_lt _ _ (or_no (or_no e).1).0;
      kind = good_kind s r _ _ _ _ _ (or_no (or_no e).1).1;
    }

-- the section has no record that breaks a rule
pub good_exprs : (s : List ℕ) → first (bad_expr s) (count_at_of s 1) ≡ count_at_of s 1 → (r : ℕ) → r < count_at_of s 1 → GoodExpr s r
good_exprs s e r h = good_expr s r (none _ _ e r h)
