-- What an accepted image tells of the needs of an expression and of a range of it: they are in the image, and of a lower rank, which is
-- what the walk's recursion falls by; and what the plan's functions ask. Assumes nothing.
use Rattle.std.specs.Prelude.{◌≡◌, Bool, cond, eqb, length, drop}
use Rattle.std.proofs.Math.Path.{refl, subst}
use Rattle.std.proofs.Common.{sym, true≢false}
use Rattle.std.proofs.Math.Bool.{true, false}
use mathlib.Core.List.{List, [], ◌∷◌, ◌++◌, map}
use Rattle.std.proofs.Math.Option.{Option, none, some}
use Prim.Native.Nat.{ℕ, zero, suc, ◌+◌, ◌*◌, ◌-◌, ◌^◌, ◌%◌, ◌≤◌, ◌<◌, min, max}
use native.Mathlib.Omega.{arith}
use Rattle.std.proofs.Math.Dec.{ltb}
use borrow.Author.Tests.{ltb-true}
use Rattle.spec_tests.specs.Rules.{list_of}
use Rattle.spec_rtl.specs.Rtl as R
use Rattle.spec_rtl.specs.Rtl.{Expr}
use Rattle.spec_rules.specs.Image.{count_at_of, signal_width, expr_width, list_word}
use Rattle.spec_model.specs.Builder.{from}
use Rattle.spec_model.specs.Ranges as ranges
use Rattle.spec_model.specs.Lowering as M
use Rattle.spec_model.specs.Lowering.{wholes, signal_steps, pieces, backwards, fused, add_kind, add_operands, carry_parts, carry_kind, carry_lsb, operands_of, is_zero_expression}
use Rattle.word_laws.specs.Widths.{Formed, AllBelow, BelowE, BinWidth}
use Rattle.check_image.specs.Accepted.{Accepted}
use Rattle.law_accepted.specs.Fits.{kind_fits_of}
use Rattle.image_records.specs.Expr.{kind_means, unary_means, binary_means, expression_of, decoded}
use Rattle.image_records.specs.declared.UnaryOp.{UnaryOp}
use Rattle.image_records.specs.declared.UnaryOp.TheVariants as U
use Rattle.image_records.specs.declared.BinaryOp.{BinaryOp}
use Rattle.image_records.specs.declared.BinaryOp.TheVariants as B
use Rattle.image_records.specs.declared.ExprKind.{ExprKind}
use Rattle.image_records.specs.declared.ExprKind.TheVariants as K
use Rattle.image_records.specs.OpClass.{bitwise}
use Rattle.expr_laws.specs.Exprs.{exprs_of, length_exprs}
use Rattle.law_accepted.specs.Formed.{readable}
use Rattle.walk_view.specs.Image.{fits, width_is, width_at_law, below_each}
use Rattle.walk_view.specs.View.{rank_of, There}
use Rattle.walk_plan.specs.Plan.{step_needs, BitsThere, operand_needs, kind_needs, whole_needs, Asked, unary_needs, binary_needs, piece_step, part_needs, low_first, kind_rest, AskedRange, range_rest}
use Rattle.walk_plan.specs.Lists.{piece_next}
use Rattle.walk_plan.specs.Kinds.{none_left, binary_yes, binary_no, whole_read, needs_short, rest_short}

-- ---- needs of a rank below c ----

abbrev pub Fits : List ℕ → ℕ → M.Need → Type 0
Fits s c n = There s n × (rank_of n < c)

abbrev pub AllFit : List ℕ → ℕ → List M.Need → Type 0
AllFit s c [] = Unit {0}
AllFit s c (n ∷ ns) = Fits s c n × AllFit s c ns

pub fit_split : (s : List ℕ) (c : ℕ) (ns ms : List M.Need) → AllFit s c (ns ++ ms) → AllFit s c ns × AllFit s c ms
fit_split s c [] ms f = (tt, f)
fit_split s c (n ∷ ns) ms f = let r = fit_split s c ns ms f.1 in ((f.0, r.0), r.1)

fit_join : (s : List ℕ) (c : ℕ) (ns ms : List M.Need) → AllFit s c ns → AllFit s c ms → AllFit s c (ns ++ ms)
fit_join s c [] ms f g = g
fit_join s c (n ∷ ns) ms f g = (f.0, fit_join s c ns ms f.1 g)

fit_signal : (s : List ℕ) (c p b w : ℕ) → p < count_at_of s 0 → b + w ≤ signal_width s p → 0 < c → AllFit s c (step_needs (signal_steps p b w))
unfolding signal_steps from
fit_signal s c p b zero hp h hc = tt
fit_signal s c p b (suc w) hp h hc = (((hp, omega arith), hc), fit_signal s c p (suc b) w hp (omega arith) hc)

below_back : (x : ℕ) (ps acc : List ℕ) → AllBelow x ps → AllBelow x acc → AllBelow x (backwards ps acc)
below_back x [] acc b d = d
below_back x (p ∷ ps) acc b d = below_back x ps (p ∷ acc) b.1 (b.0, d)

module _ (s : List ℕ) (e : ℕ) (h : e < count_at_of s 1) where
  fit_whole : (c a : ℕ) → 2 * e + 1 ≤ c → a < e → Fits s c (M.Whole a)
  fit_whole c a hc l = (omega arith, omega arith)

  fit_wholes : (c : ℕ) (es : List ℕ) → 2 * e + 1 ≤ c → AllBelow e es → AllFit s c (step_needs (wholes es))
  fit_wholes c [] hc b = tt
  fit_wholes c (x ∷ es) hc b = (fit_whole c x hc b.0, fit_wholes c es hc b.1)

-- ---- the operands of an Add ----

abbrev LowO : ℕ → Option ℕ → Type 0
LowO e none = Unit {0}
LowO e (some c) = c < e

abbrev LowP : ℕ → Option (ℕ × ℕ) → Type 0
LowP e none = Unit {0}
LowP e (some p) = (p.0 < e) × (p.1 < e)

record LowOps (e : ℕ) (o : M.Operands) : Type 0 where
  left : o.lhs < e
  right : o.rhs < e
  carry : LowO e o.carry

fused_low : (e : ℕ) (p : Option (ℕ × ℕ)) (c : Option ℕ) (o : M.Operands) → LowP e p → LowO e c → LowOps e o → LowOps e (fused p c o)
fused_low e none c o lp lc lo = lo
fused_low e (some p) none o lp lc lo = lo
fused_low e (some p) (some c) o lp lc lo = record { left = lp.0; right = lp.1; carry = lc }

low_if : (e : ℕ) (t : Bool) (x : Option ℕ) → LowO e x → LowO e (cond t x none)
low_if e true x l = l
low_if e false x l = tt

pair_if : (e : ℕ) (t : Bool) (x y : ℕ) → x < e → y < e → LowP e (cond t (some (x, y)) none)
pair_if e true x y l m = (l, m)
pair_if e false x y l m = tt

add_kind_low : (e a : ℕ) → a < e → (k : R.Kind) → BelowE a k → LowP e (add_kind k)
add_kind_low e a l (R.Signal p lsb) b = tt
add_kind_low e a l (R.Constant n) b = tt
add_kind_low e a l (R.Un op x) b = tt
add_kind_low e a l (R.Bin op x y) b = pair_if e (M.is_add (ranges.class_of op)) x y (omega (arith, b.0)) (omega (arith, b.1))
add_kind_low e a l (R.Mux c t f) b = tt
add_kind_low e a l (R.Concat ps) b = tt
add_kind_low e a l (R.Slice x lsb) b = tt

parts_low : (xs : List Expr) (e a : ℕ) → a < e → (ps : List ℕ) → AllBelow a ps → LowO e (carry_parts xs ps)
parts_low xs e a l [] b = tt
parts_low xs e a l (p ∷ []) b = low_if e (eqb (ranges.width_at xs p) 1) (some p) (omega (arith, b.0))
parts_low xs e a l (p ∷ q ∷ ps) b = low_if e (is_zero_expression xs p) (carry_parts xs (q ∷ ps)) (parts_low xs e a l (q ∷ ps) b.1)

carry_kind_low : (xs : List Expr) (e a w : ℕ) → a < e → (k : R.Kind) → BelowE a k → LowO e (carry_kind xs a w k)
carry_kind_low xs e a w l (R.Signal p lsb) b = tt
carry_kind_low xs e a w l (R.Constant n) b = low_if e (ltb (n % 2 ^ w) 2) (some a) l
carry_kind_low xs e a w l (R.Un op x) b = tt
carry_kind_low xs e a w l (R.Bin op x y) b = tt
carry_kind_low xs e a w l (R.Mux c t f) b = tt
carry_kind_low xs e a w l (R.Concat ps) b = parts_low xs e a l ps b
carry_kind_low xs e a w l (R.Slice x lsb) b = tt

module _ (xs : List Expr) (g : Formed xs) (e : ℕ) (h : e < length xs) where
  add_low : (a : ℕ) → a < e → LowP e (add_operands xs a)
  unfolding add_operands
  add_low a l = add_kind_low e a l (ranges.expr_at xs a).kind (g.low a (omega arith))

  carry_low : (a : ℕ) → a < e → LowO e (carry_lsb xs a)
  unfolding carry_lsb
  carry_low a l = go (eqb (ranges.width_at xs a) 1)
    where
      go : (t : Bool) → LowO e (cond t (some a) (carry_kind xs a (ranges.width_at xs a) (ranges.expr_at xs a).kind))
      go true = l
      go false = carry_kind_low xs e a (ranges.width_at xs a) l (ranges.expr_at xs a).kind (g.low a (omega arith))

  operands_low : (op : R.Binary) (a b : ℕ) → a < e → b < e → LowOps e (operands_of xs op a b)
  unfolding operands_of
  operands_low op a b l m = go (M.is_add (ranges.class_of op))
    where
      plain : LowOps e (record { lhs = a; rhs = b; carry = none })
      plain = record { left = l; right = m; carry = tt }

      go : (t : Bool) → LowOps e (cond t (fused (add_operands xs a) (carry_lsb xs b) (fused (add_operands xs b) (carry_lsb xs a) (record { lhs = a; rhs = b; carry = none })))
          (record { lhs = a; rhs = b; carry = none }))
      go true = fused_low e (add_operands xs a) (carry_lsb xs b) _ (add_low a l) (carry_low b m) (fused_low e (add_operands xs b) (carry_lsb xs a) _ (add_low b m) (carry_low a l) plain)
      go false = plain

fit_operands : (s : List ℕ) (e c : ℕ) → e < count_at_of s 1 → 2 * e + 1 ≤ c → (o : M.Operands) → LowOps e o → AllFit s c (operand_needs o)
fit_operands s e c h hc o l = go o.carry l.carry
  where
    go : (r : Option ℕ) → LowO e r → AllFit s c (operand_needs (record { lhs = o.lhs; rhs = o.rhs; carry = r }))
    go none u = (fit_whole s e h c o.lhs hc l.left, (fit_whole s e h c o.rhs hc l.right, tt))
    go (some x) u = (fit_whole s e h c o.lhs hc l.left, (fit_whole s e h c o.rhs hc l.right, (fit_whole s e h c x hc u, tt)))

-- ---- a whole expression ----

module _ (s : List ℕ) (a : Accepted s) (e : ℕ) (h : e < count_at_of s 1) where
  fit_kind : (w : ℕ) (k : ExprKind) → kind_fits_of s e w k → AllFit s (2 * e + 1) (kind_needs s w k)
  unfolding kind_needs kind_means list_of
  fit_kind w (K.Signal p lsb) f = fit_signal s (2 * e + 1) p lsb w f.0 f.1 (omega arith)
  fit_kind w (K.Constant start) f = tt
  fit_kind w (K.Unary op x) f = (fit_whole s e h (2 * e + 1) x (omega arith) f.0, tt)
  fit_kind w (K.Binary op x y) f =
      fit_operands s e (2 * e + 1) h (omega arith) _
      (operands_low (exprs_of s) (readable s a).formed e (rw (length_exprs s) h) (binary_means op) x y f.0 f.1)
  fit_kind w (K.Mux x y z) f = (
    fit_whole s e h (2 * e + 1) x (omega arith) f.0,
    (fit_whole s e h (2 * e + 1) y (omega arith) f.1, (fit_whole s e h (2 * e + 1) z (omega arith) f.2, tt)),
  )
  fit_kind w (K.Concat start n) f =
      fit_wholes s e h (2 * e + 1) (low_first s start n) (omega arith)
      (below_back e (list_of n (λ i. list_word s (start + i))) [] (below_each e (λ i. list_word s (start + i)) 0 n (λ j l u. f.2 j (omega arith))) tt)
  fit_kind w (K.Slice x lsb) f = (((omega (arith, f.0), f.1), omega (arith, f.0)), tt)

  pub whole_fits : AllFit s (2 * e + 1) (whole_needs s e)
  whole_fits =
      let x = expression_of s e in
      subst (AllFit s (2 * e + 1)) (whole_read s (readable s a) e h x (decoded s e x refl)) (fit_kind x.width x.kind (rw (← width_is s e) at (fits s e a h)))

-- ---- a range ----

both_wide : (op : BinaryOp) (w x y : ℕ) → bitwise op ≡ true → BinWidth (binary_means op) w x y → (x ≡ w) × (y ≡ w)
unfolding bitwise binary_means
both_wide B.And w x y t f = f
both_wide B.Or w x y t f = f
both_wide B.Xor w x y t f = f
both_wide B.Add w x y t f = f
both_wide B.Sub w x y t f = f
both_wide B.Mul w x y t f = f
both_wide B.Equal w x y t f = absurd (true≢false (sym t))
both_wide B.NotEqual w x y t f = absurd (true≢false (sym t))
both_wide B.LessThanUnsigned w x y t f = absurd (true≢false (sym t))
both_wide B.LessThanSigned w x y t f = absurd (true≢false (sym t))
both_wide B.LessOrEqualUnsigned w x y t f = absurd (true≢false (sym t))
both_wide B.LessOrEqualSigned w x y t f = absurd (true≢false (sym t))
both_wide B.GreaterThanUnsigned w x y t f = absurd (true≢false (sym t))
both_wide B.GreaterThanSigned w x y t f = absurd (true≢false (sym t))
both_wide B.GreaterOrEqualUnsigned w x y t f = absurd (true≢false (sym t))
both_wide B.GreaterOrEqualSigned w x y t f = absurd (true≢false (sym t))
both_wide B.ShiftLeft w x y t f = absurd (true≢false (sym t))
both_wide B.ShiftRightLogical w x y t f = absurd (true≢false (sym t))
both_wide B.ShiftRightArithmetic w x y t f = absurd (true≢false (sym t))

module _ (s : List ℕ) (a : Accepted s) (e lsb w : ℕ) (h : e < count_at_of s 1) (room : lsb + w ≤ expr_width s e) where
  fit_range : (c x : ℕ) → 2 * e + 2 ≤ c → x < e → lsb + w ≤ expr_width s x → Fits s c (M.Range x lsb w)
  fit_range c x hc l r = ((omega arith, r), omega arith)

  fit_part : (lo end at p v : ℕ) → p < e → v ≡ expr_width s p → AllFit s (2 * e + 2) (part_needs lo end at p v)
  unfolding part_needs
  fit_part lo end at p v l q = go (ltb (max lo at) (min end (at + v))) refl
    where
      go : (t : Bool) → ltb (max lo at) (min end (at + v)) ≡ t
          → AllFit s (2 * e + 2) (cond t (M.Range p (max lo at - at) (min end (at + v) - max lo at) ∷ []) [])
      go true r = let u : max lo at < min end (at + v) = ltb-true _ _ r in (((omega arith, omega arith), omega arith), tt)
      go false r = tt

  fit_pieces : (lo end at : ℕ) (ps : List ℕ) → AllBelow e ps → AllFit s (2 * e + 2) (step_needs (map piece_step (pieces (exprs_of s) lo end at ps)))
  unfolding pieces
  fit_pieces lo end at [] b = tt
  fit_pieces lo end at (p ∷ ps) b =
      let q : ranges.width_at (exprs_of s) p ≡ expr_width s p = width_at_law s p (omega (arith, b.0)) in
      subst (AllFit s (2 * e + 2)) (sym (piece_next (exprs_of s) lo end at p (expr_width s p) ps q))
      (fit_join s (2 * e + 2) (part_needs lo end at p (expr_width s p)) _ (fit_part lo end at p (expr_width s p) b.0 refl) (fit_pieces lo end (at + expr_width s p) ps b.1))

  fit_unary : (op : UnaryOp) (x : ℕ) → kind_fits_of s e (expr_width s e) (K.Unary op x) → AllFit s (2 * e + 2) (unary_needs op e x lsb w)
  unfolding unary_needs unary_means
  fit_unary U.BitNot x f = (fit_range (2 * e + 2) x (omega arith) f.0 (rw f.1 room), tt)
  fit_unary U.LogicNot x f = ((h, omega arith), tt)
  fit_unary U.ReduceOr x f = ((h, omega arith), tt)
  fit_unary U.ReduceAnd x f = ((h, omega arith), tt)
  fit_unary U.ReduceXor x f = ((h, omega arith), tt)

  fit_binary : (op : BinaryOp) (x y : ℕ) → kind_fits_of s e (expr_width s e) (K.Binary op x y) → AllFit s (2 * e + 2) (binary_needs op e x y lsb w)
  fit_binary op x y f = go (bitwise op) refl
    where
      go : (t : Bool) → bitwise op ≡ t → AllFit s (2 * e + 2) (binary_needs op e x y lsb w)
      go true t =
          let b = both_wide op (expr_width s e) (expr_width s x) (expr_width s y) t f.2 in
          rw (binary_yes e x y lsb w op t) (fit_range (2 * e + 2) x (omega arith) f.0 (rw b.0 room), (fit_range (2 * e + 2) y (omega arith) f.1 (rw b.1 room), tt))
      go false t = rw (binary_no e x y lsb w op t) ((h, omega arith), tt)

  fit_rest : (k : ExprKind) → kind_fits_of s e (expr_width s e) k → AllFit s (2 * e + 2) (kind_rest s e lsb w k 0 0)
  unfolding kind_rest list_of
  fit_rest (K.Signal p l) f = fit_signal s (2 * e + 2) p (l + lsb) w f.0 (omega (arith, f.1)) (omega arith)
  fit_rest (K.Constant start) f = tt
  fit_rest (K.Unary op x) f = fit_unary op x f
  fit_rest (K.Binary op x y) f = fit_binary op x y f
  fit_rest (K.Mux x y z) f = (
    fit_whole s e h (2 * e + 2) x (omega arith) f.0,
    (fit_range (2 * e + 2) y (omega arith) f.1 (rw f.4 room), (fit_range (2 * e + 2) z (omega arith) f.2 (rw f.5 room), tt)),
  )
  fit_rest (K.Concat start n) f =
      fit_pieces lsb (lsb + w) 0 (low_first s start n)
      (below_back e (list_of n (λ i. list_word s (start + i))) [] (below_each e (λ i. list_word s (start + i)) 0 n (λ j l u. f.2 j (omega arith))) tt)
  fit_rest (K.Slice x l) f = (((omega (arith, f.0), omega (arith, f.1)), omega (arith, f.0)), tt)

  pub range_fits : AllFit s (2 * e + 2) (range_rest s e lsb w 0 0)
  range_fits = fit_rest (expression_of s e).kind (fits s e a h)

-- ---- what the functions ask ----

module _ (s : List ℕ) (a : Accepted s) (e : ℕ) (h : e < count_at_of s 1) where
  bits_there : (p b n : ℕ) → p < count_at_of s 0 → b + n ≤ signal_width s p → BitsThere s p b n
  bits_there p b n h r = record { signal = h; room = r; most = (let m = (a.signals p h).width.1 in omega arith) }

  ask : (w : ℕ) (k : ExprKind) → kind_fits_of s e w k → Asked s w k
  ask w (K.Signal p lsb) f = bits_there p lsb w f.0 f.1
  ask w (K.Constant start) f = tt
  ask w (K.Unary op x) f = tt
  ask w (K.Binary op x y) f = record { readable = readable s a; left = omega (arith, f.0); right = omega (arith, f.1) }
  ask w (K.Mux x y z) f = tt
  ask w (K.Concat start n) f = omega (arith, f.1, a.most.list)
  ask w (K.Slice x lsb) f = tt

  pub asked : Asked s (expression_of s e).width (expression_of s e).kind
  asked = ask _ (expression_of s e).kind (rw (← width_is s e) at (fits s e a h))

  ask_range : (lsb w : ℕ) (k : ExprKind) → lsb + w ≤ expr_width s e → kind_fits_of s e (expr_width s e) k → AskedRange s lsb w k
  ask_range lsb w (K.Signal p l) r f = bits_there p (l + lsb) w f.0 (omega (arith, f.1))
  ask_range lsb w (K.Constant start) r f = tt
  ask_range lsb w (K.Unary op x) r f = tt
  ask_range lsb w (K.Binary op x y) r f = tt
  ask_range lsb w (K.Mux x y z) r f = tt
  ask_range lsb w (K.Concat start n) r f = (
    omega (arith, f.1, a.most.list),
    omega (arith, (a.exprs e h).most),
    λ i u. (a.exprs (list_word s (start + i)) (let b = f.2 i u in omega arith)).most,
    λ i u. width_at_law s (list_word s (start + i)) (let b = f.2 i u in omega arith),
  )
  ask_range lsb w (K.Slice x l) r f = let m = (a.exprs x (omega (arith, f.0))).most in omega (arith, f.1)

  pub asked_range : (lsb w : ℕ) → lsb + w ≤ expr_width s e → AskedRange s lsb w (expression_of s e).kind
  asked_range lsb w r = ask_range lsb w (expression_of s e).kind r (fits s e a h)

  -- ---- no list is long ----

  pub whole_short : (k : ℕ) → 8192 ≤ k → drop k (whole_needs s e) ≡ []
  whole_short k l =
      let x = expression_of s e in
      let r = whole_read s (readable s a) e h x (decoded s e x refl) in
      let m = needs_short s x.width x.kind asked in
      none_left (whole_needs s e) k (rw (← r) (omega arith))

  pub range_short : (lsb w k at : ℕ) → lsb + w ≤ expr_width s e → 8192 ≤ k → range_rest s e lsb w k at ≡ []
  range_short lsb w k at r l = rest_short s e lsb w k at (expression_of s e).kind (asked_range lsb w r) l
