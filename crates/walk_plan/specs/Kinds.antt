-- The answers for each kind of expression, against the lists of needs. Assumes nothing.
use Rattle.std.specs.Prelude.{◌≡◌, refl, Bool, true, false, cond, List, [], ◌∷◌, ◌++◌, map, ℕ, ◌+◌, ◌-◌, ◌≤◌, ◌<◌, min, max, length, drop, Some, None}
use Rattle.std.specs.Prelude as code
use Rattle.std.proofs.Common.{sym, ap, ◌∙◌, true≢false, arith, drop_of_length-le}
use Rattle.std.proofs.Math.Option.{Option, none, some}
use borrow.Author.Tests.{lt-ltb, le-ltb}
use Rattle.spec_tests.specs.Laws.{is_some}
use Rattle.spec_rules.specs.Image.{count_at_of, expr_width, list_word}
use Rattle.spec_rtl.specs.Rtl as R
use Rattle.spec_model.specs.Ranges.{Gate, class_of, width_at}
use Rattle.spec_model.specs.Lowering as M
use Rattle.spec_model.specs.Lowering.{wholes, pieces, operands_of, whole_steps, range_steps_of, concat_pieces, gate_of, gate_steps}
use Rattle.image_records.specs.Expr.{unary_means, binary_means, kind_means, expression_of, Decoded, decoded}
use Rattle.image_records.specs.declared.UnaryOp.{UnaryOp}
use Rattle.image_records.specs.declared.BinaryOp.{BinaryOp}
use Rattle.image_records.specs.declared.ExprKind.{ExprKind}
use Rattle.image_records.specs.declared.ExprKind.TheVariants as K
use Rattle.image_records.specs.declared.Expression.{Expression}
use Rattle.expr_laws.specs.Exprs.{exprs_of, Readable, width_at_law, width_read, kind_read}
use Rattle.image_records.specs.OpClass.{op_class_of, adds_of, add_class}
use Rattle.image_records.specs.declared.OpClass.{OpClass}
use Rattle.image_records.specs.OpClass.{bitwise}
use Rattle.walk_plan.specs.declared.Need.{Need}
use Rattle.walk_plan.specs.declared.Need.TheVariants.{Bit, Whole, Range}
use Rattle.walk_plan.specs.declared.Turn.{Turn}
use Rattle.walk_plan.specs.declared.Turn.TheVariants.{Lower, Last, Bits, Build}
use Rattle.walk_plan.specs.Plan.{needs_of, step_needs, bits_needs, TurnOf, TurnIn, plain_of, operand_needs, pair_needs, triple_needs, low_first, parts_needs, kind_needs, whole_needs, Asked, unary_needs, binary_needs, mux_ranges, piece_step, part_needs, pieces_needs, kind_rest, AskedParts, AskedRange, range_rest}
use Rattle.walk_plan.specs.Lists.{signal_length, low_length, low_next, wholes_length, wholes_drop, piece_next}

-- ---- operands ----

-- an operator that is no Add takes its own operands
pub operands_plain : (s : List ℕ) (op : BinaryOp) (c : OpClass) (a b : ℕ) → c ≡ op_class_of op → adds_of c ≡ false → plain_of a b ≡ operands_of (exprs_of s) (binary_means op) a b
unfolding operands_of
operands_plain s op c a b e f = rw (add_class op, ← e, f)

pub operands_add : (s : List ℕ) (op : BinaryOp) (c : OpClass) (a b : ℕ) → c ≡ op_class_of op → adds_of c ≡ true → operands_of (exprs_of s) R.Add a b ≡ operands_of (exprs_of s) (binary_means op) a b
unfolding operands_of
operands_add s op c a b e f = rw (add_class op, ← e, f)

pub operand_two : (o : M.Operands) → o.carry ≡ none → operand_needs o ≡ pair_needs o.lhs o.rhs
operand_two o q = rw q

pub operand_three : (o : M.Operands) (c : ℕ) → o.carry ≡ some c → operand_needs o ≡ triple_needs o.lhs o.rhs c
operand_three o c q = rw q

-- ---- turns ----

pub none_left : {A : Type 0} (l : List A) (k : ℕ) → length l ≤ k → drop k l ≡ []
none_left l k h = drop_of_length-le l h

needs_most : (n : code.Option Need) → length (needs_of n) ≤ 1
needs_most (Some (Bit p b)) = omega arith
needs_most (Some (Whole a)) = omega arith
needs_most (Some (Range a l v)) = omega arith
needs_most None = omega arith

pub one_ends : (n : code.Option Need) (k : ℕ) → (k ≡ 0 → ⊥) → drop k (needs_of n) ≡ []
one_ends n k z = let m = needs_most n in none_left (needs_of n) k (omega (arith, z))

module _ (s : List ℕ) where
  pub turn_for : (all all₁ : List M.Need) (k : ℕ) (r : Turn) → all₁ ≡ all → TurnIn s all k r → TurnIn s all₁ k r
  turn_for all all₁ k r e t = rw e t

  -- what is left is the same
  pub turn_as : (rest rest₁ : ℕ → ℕ → List M.Need) (k at at₁ : ℕ) (r : Turn) → rest₁ k at₁ ≡ rest k at → ((j i : ℕ) → rest₁ j i ≡ rest j i) → TurnOf s rest k at r
      → TurnOf s rest₁ k at₁ r
  turn_as rest rest₁ k at at₁ (Lower n b) h e t = (h ∙ t.0 ∙ ap (λ (l : List M.Need). needs_of n ++ l) (sym (e (k + 1) b)), t.1)
  turn_as rest rest₁ k at at₁ (Last n) h e t = h ∙ t
  turn_as rest rest₁ k at at₁ (Bits p b n) h e t = (t.0, λ j i. e j i ∙ t.1 j i)
  turn_as rest rest₁ k at at₁ Build h e t = h ∙ t

  pub turn_list : (rest : ℕ → ℕ → List M.Need) (all : List M.Need) (k at : ℕ) (r : Turn) → ((j i : ℕ) → rest j i ≡ drop j all) → TurnIn s all k r → TurnOf s rest k at r
  turn_list rest all k at r e t = turn_as (λ j i. drop j all) rest k 0 at r (e k at) e t

-- ---- a whole expression: the list of its needs ----

module _ (s : List ℕ) (w : ℕ) (kind : ExprKind) where
  pub needs_signal : (p lsb : ℕ) → kind ≡ K.Signal p lsb → kind_needs s w kind ≡ bits_needs p lsb w
  unfolding kind_needs kind_means
  needs_signal p lsb e = rw e

  pub needs_constant : (start : ℕ) → kind ≡ K.Constant start → kind_needs s w kind ≡ []
  unfolding kind_needs kind_means
  needs_constant start e = rw e

  pub needs_unary : (op : UnaryOp) (a : ℕ) → kind ≡ K.Unary op a → kind_needs s w kind ≡ M.Whole a ∷ []
  unfolding kind_needs kind_means
  needs_unary op a e = rw e

  pub needs_binary : (op : BinaryOp) (a b : ℕ) (o : M.Operands) → kind ≡ K.Binary op a b → o ≡ operands_of (exprs_of s) (binary_means op) a b → kind_needs s w kind ≡ operand_needs o
  unfolding kind_needs kind_means
  needs_binary op a b o e f = rw (e, f)

  pub needs_mux : (c t f : ℕ) → kind ≡ K.Mux c t f → kind_needs s w kind ≡ triple_needs c t f
  unfolding kind_needs kind_means
  needs_mux c t f e = rw e

  pub needs_concat : (start n : ℕ) → kind ≡ K.Concat start n → kind_needs s w kind ≡ parts_needs s start n
  unfolding kind_needs kind_means
  needs_concat start n e = rw e

  pub needs_slice : (a lsb : ℕ) → kind ≡ K.Slice a lsb → kind_needs s w kind ≡ M.Range a lsb w ∷ []
  unfolding kind_needs kind_means
  needs_slice a lsb e = rw e

module _ (s : List ℕ) (start n k : ℕ) where
  parts_length : length (parts_needs s start n) ≡ n
  parts_length = wholes_length (low_first s start n) ∙ low_length n (λ i. list_word s (start + i))

  pub part_next : (p : ℕ) → k < n → p ≡ list_word s (start + (n - 1 - k)) → drop k (parts_needs s start n) ≡ M.Whole p ∷ drop (k + 1) (parts_needs s start n)
  part_next p u q =
      rw q
      (wholes_drop (low_first s start n) k ∙ ap (λ (l : List ℕ). step_needs (wholes l)) (low_next n (λ i. list_word s (start + i)) k u)
      ∙ ap (λ (l : List M.Need). M.Whole (list_word s (start + (n - 1 - k))) ∷ l) (sym (wholes_drop (low_first s start n) (k + 1))))

  pub parts_end : n ≤ k → drop k (parts_needs s start n) ≡ []
  parts_end u = none_left (parts_needs s start n) k (rw parts_length u)

-- the expression that was read
pub whole_read : (s : List ℕ) (g : Readable s) (e : ℕ) → e < count_at_of s 1 → (x : Expression) → Decoded s e x → kind_needs s x.width x.kind ≡ whole_needs s e
unfolding kind_needs whole_needs whole_steps
whole_read s g e h x d = rw (width_at_law s g e h, ← width_read s g e h x d, kind_read s g e h x d)

-- ---- a range: what is left before turn k ----

module _ (e a b lsb w : ℕ) where
  gate_yes : (g : Option Gate) → is_some g ≡ true → step_needs (gate_steps g e a b lsb w) ≡ M.Range a lsb w ∷ M.Range b lsb w ∷ []
  gate_yes none h = absurd (true≢false (sym h))
  gate_yes (some g) h = refl

  gate_no : (g : Option Gate) → is_some g ≡ false → step_needs (gate_steps g e a b lsb w) ≡ M.Whole e ∷ []
  gate_no none h = refl
  gate_no (some g) h = absurd (true≢false h)

  pub binary_yes : (op : BinaryOp) → bitwise op ≡ true → binary_needs op e a b lsb w ≡ M.Range a lsb w ∷ M.Range b lsb w ∷ []
  unfolding binary_needs bitwise
  binary_yes op h = gate_yes (gate_of (class_of (binary_means op))) h

  pub binary_no : (op : BinaryOp) → bitwise op ≡ false → binary_needs op e a b lsb w ≡ M.Whole e ∷ []
  unfolding binary_needs bitwise
  binary_no op h = gate_no (gate_of (class_of (binary_means op))) h

-- what part_range_need answers
module _ (lsb end at p v : ℕ) where
  pub part_yes : (lo hi : ℕ) → lo ≡ max lsb at → hi ≡ min end (at + v) → lo < hi → part_needs lsb end at p v ≡ M.Range p (lo - at) (hi - lo) ∷ []
  unfolding part_needs
  part_yes lo hi l h u = rw (← l, ← h, lt-ltb lo hi u)

  pub part_no : (lo hi : ℕ) → lo ≡ max lsb at → hi ≡ min end (at + v) → hi ≤ lo → part_needs lsb end at p v ≡ []
  unfolding part_needs
  part_no lo hi l h u = rw (← l, ← h, le-ltb lo hi u)

-- the list of a range's needs
module _ (s : List ℕ) (e lsb w : ℕ) (kind : ExprKind) where
  pub rest_signal : (p l : ℕ) → kind ≡ K.Signal p l → (j i : ℕ) → kind_rest s e lsb w kind j i ≡ drop j (bits_needs p (l + lsb) w)
  unfolding kind_rest
  rest_signal p l q j i = rw q

  pub rest_constant : (start : ℕ) → kind ≡ K.Constant start → (j i : ℕ) → kind_rest s e lsb w kind j i ≡ []
  unfolding kind_rest
  rest_constant start q j i = rw q

  pub rest_unary : (op : UnaryOp) (a : ℕ) (r : code.Option Need) → kind ≡ K.Unary op a → unary_needs op e a lsb w ≡ needs_of r → (j i : ℕ) → kind_rest s e lsb w kind j i ≡ drop j (needs_of r)
  unfolding kind_rest
  rest_unary op a r q f j i = rw (q, f)

  pub rest_binary : (op : BinaryOp) (a b : ℕ) → kind ≡ K.Binary op a b → (j i : ℕ) → kind_rest s e lsb w kind j i ≡ drop j (binary_needs op e a b lsb w)
  unfolding kind_rest
  rest_binary op a b q j i = rw q

  pub rest_mux : (c t f : ℕ) → kind ≡ K.Mux c t f → (j i : ℕ) → kind_rest s e lsb w kind j i ≡ drop j (mux_ranges c t f lsb w)
  unfolding kind_rest
  rest_mux c t f q j i = rw q

  pub rest_concat : (start n : ℕ) → kind ≡ K.Concat start n → (j i : ℕ) → kind_rest s e lsb w kind j i ≡ pieces_needs s start n lsb w j i
  unfolding kind_rest
  rest_concat start n q j i = rw q

  pub rest_slice : (a l : ℕ) → kind ≡ K.Slice a l → (j i : ℕ) → kind_rest s e lsb w kind j i ≡ drop j (M.Range a (l + lsb) w ∷ [])
  unfolding kind_rest
  rest_slice a l q j i = rw q

-- part k of a Concat, v wide
module _ (s : List ℕ) (start n lsb w k p v : ℕ) (a : AskedParts s start n lsb w) (u : k < n) (f : p ≡ list_word s (start + (n - 1 - k))) (g : v ≡ expr_width s p) where
  pub part_most : v ≤ 1024
  part_most = rw (g, f) (a.2 (n - 1 - k) (omega arith))

  pub piece_turn : (at : ℕ) (r : code.Option Need) → part_needs lsb (lsb + w) at p v ≡ needs_of r → pieces_needs s start n lsb w k at ≡ needs_of r ++ pieces_needs s start n lsb w (k + 1) (at + v)
  piece_turn at r m =
      let y : width_at (exprs_of s) p ≡ v = ap (width_at (exprs_of s)) f ∙ a.3 (n - 1 - k) (omega arith) ∙ ap (expr_width s) (sym f) ∙ sym g in
      ap (λ (l : List ℕ). step_needs (map piece_step (pieces (exprs_of s) lsb (lsb + w) at l))) (low_next n (λ i. list_word s (start + i)) k u)
      ∙ ap (λ (c : ℕ). step_needs (map piece_step (pieces (exprs_of s) lsb (lsb + w) at (c ∷ drop (k + 1) (low_first s start n))))) (sym f)
      ∙ piece_next (exprs_of s) lsb (lsb + w) at p v (drop (k + 1) (low_first s start n)) y
      ∙ ap (λ (l : List M.Need). l ++ pieces_needs s start n lsb w (k + 1) (at + v)) m

pub pieces_end : (s : List ℕ) (start n lsb w k at : ℕ) → n ≤ k → pieces_needs s start n lsb w k at ≡ []
unfolding pieces
pieces_end s start n lsb w k at u = rw (none_left (low_first s start n) k (rw (low_length n (λ i. list_word s (start + i))) u))

-- ---- the range's needs, at the loop's start and end ----

begins : (s : List ℕ) (e lsb w v : ℕ) (k : ExprKind) → step_needs (M.kind_range_steps (exprs_of s) e lsb w (kind_means s v k)) ≡ kind_rest s e lsb w k 0 0
unfolding kind_means kind_rest concat_pieces unary_needs binary_needs
begins s e lsb w v (K.Signal p l) = refl
begins s e lsb w v (K.Constant start) = refl
begins s e lsb w v (K.Unary op a) = refl
begins s e lsb w v (K.Binary op a b) = refl
begins s e lsb w v (K.Mux c t f) = refl
begins s e lsb w v (K.Concat start n) = refl
begins s e lsb w v (K.Slice a l) = refl

pub range_begins : (s : List ℕ) (g : Readable s) (e lsb w : ℕ) → e < count_at_of s 1 → step_needs (range_steps_of (exprs_of s) e lsb w) ≡ range_rest s e lsb w 0 0
unfolding range_steps_of
range_begins s g e lsb w h =
    let x = expression_of s e in
    rw (kind_read s g e h x (decoded s e x refl)) (begins s e lsb w x.width x.kind)

-- ---- no list is long ----

one_wide : (op : UnaryOp) (e a lsb w : ℕ) → length (unary_needs op e a lsb w) ≡ 1
unfolding unary_needs
one_wide op e a lsb w = go (M.is_bit_not (unary_means op))
  where
    go : (t : Bool) → length (step_needs (cond t (M.Always (M.Range a lsb w) ∷ []) (wholes (e ∷ [])))) ≡ 1
    go true = refl
    go false = refl

two_wide : (op : BinaryOp) (e a b lsb w : ℕ) → length (binary_needs op e a b lsb w) ≡ cond (bitwise op) 2 1
two_wide op e a b lsb w = go (bitwise op) refl
  where
    go : (t : Bool) → bitwise op ≡ t → length (binary_needs op e a b lsb w) ≡ cond t 2 1
    go true h = ap length (binary_yes e a b lsb w op h)
    go false h = ap length (binary_no e a b lsb w op h)

operands_most : (o : M.Operands) → length (operand_needs o) ≤ 3
operands_most o = go o.carry
  where
    go : (r : Option ℕ) → length (operand_needs (record { lhs = o.lhs; rhs = o.rhs; carry = r })) ≤ 3
    go none = omega arith
    go (some c) = omega arith

pub needs_short : (s : List ℕ) (w : ℕ) (kind : ExprKind) → Asked s w kind → length (kind_needs s w kind) ≤ 8192
unfolding kind_needs kind_means
needs_short s w (K.Signal p lsb) a = omega (arith, signal_length p lsb w, a.most)
needs_short s w (K.Constant start) a = omega arith
needs_short s w (K.Unary op x) a = omega arith
needs_short s w (K.Binary op x y) a = omega (arith, operands_most (operands_of (exprs_of s) (binary_means op) x y))
needs_short s w (K.Mux c t f) a = omega arith
needs_short s w (K.Concat start n) a = omega (arith, parts_length s start n 0, a)
needs_short s w (K.Slice x lsb) a = omega arith

pub rest_short : (s : List ℕ) (e lsb w k at : ℕ) (kind : ExprKind) → AskedRange s lsb w kind → 8192 ≤ k → kind_rest s e lsb w kind k at ≡ []
unfolding kind_rest
rest_short s e lsb w k at (K.Signal p l) a h = none_left _ k (omega (arith, signal_length p (l + lsb) w, a.most))
rest_short s e lsb w k at (K.Constant start) a h = refl
rest_short s e lsb w k at (K.Unary op x) a h = none_left _ k (omega (arith, one_wide op e x lsb w))
rest_short s e lsb w k at (K.Binary op x y) a h = none_left _ k (two_short (bitwise op) (two_wide op e x y lsb w))
  where
    two_short : (t : Bool) → length (binary_needs op e x y lsb w) ≡ cond t 2 1 → length (binary_needs op e x y lsb w) ≤ k
    two_short true q = omega arith
    two_short false q = omega arith
rest_short s e lsb w k at (K.Mux c t f) a h = none_left _ k (omega arith)
rest_short s e lsb w k at (K.Concat start n) a h = pieces_end s start n lsb w k at (omega (arith, a.0))
rest_short s e lsb w k at (K.Slice x l) a h = none_left _ k (omega arith)
