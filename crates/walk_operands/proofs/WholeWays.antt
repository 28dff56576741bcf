-- For each kind of expression one law: what is asked lets its operands be read, and what was read is what the model makes. Assumes nothing.
use mathlib.Core.Path.{◌≡◌, refl, sym, ap, ◌∙◌}
use mathlib.Core.Bool.{true, false, true≢false}
use mathlib.Core.List.{List, [], ◌∷◌}
use mathlib.Core.Logic.{⊎_elim}
use mathlib.Core.Option.{Option, none, some}
use types.Run.{OneOf}
use denote.Enum.Declared.{tag_of}
use borrow.Author.Tests.{eqb-false}
use Prim.Native.Nat.{ℕ, zero, suc, ◌+◌, ◌≤◌, ◌<◌}
use native.Mathlib.Omega.{arith}
use native.Mathlib.Nat.{zero-add}
use lib.ListN.{length, take, length-map}
use lib.Seq.{paste, take-paste, take-length}
use Rattle.spec_tests.specs.Rules.{each, list_of, sum_to}
use Rattle.spec_rtl.specs.Word.{bits, length_bits}
use Rattle.spec_rtl.specs.Rtl as R
use Rattle.spec_rules.specs.Image.{count_at_of, expr_width, signal_width, list_word, constant_of}
use Rattle.spec_model.specs.Words.{Netlist}
use Rattle.spec_model.specs.Builder.{Made, done, from}
use Rattle.spec_model.specs.Ranges.{width_at, class_of}
use Rattle.spec_model.specs.Ranges as ranges
use Rattle.spec_model.specs.Lowering.{State, is_add, operands_of, operand_steps, wholes, backwards, kind_steps, whole_steps, signal_nets, range_nets, part_nets, lower_unary, lower_binary, whole_net, whole_nets, build_mux, build_binary, build_kind, build_whole}
use Rattle.word_laws.specs.Runs.{length_from}
use Rattle.word_laws.specs.Widths.{AllBelow, sum_of, UnWidth, BinWidth, BelowE, WidthOk}
use Rattle.word_ranges.specs.Fusion.{CarryBelow}
use Rattle.word_ranges.proofs.Fusion.{operands}
use Rattle.image_records.specs.Expr.{unary_means, binary_means, kind_means, Decoded}
use Rattle.image_records.specs.declared.UnaryOp.{UnaryOp}
use Rattle.image_records.specs.declared.BinaryOp.{BinaryOp}
use Rattle.image_records.specs.declared.BinaryOp.TheVariants as B
use Rattle.image_records.specs.declared.Expression.{Expression}
use Rattle.image_records.specs.declared.ExprKind.{ExprKind}
use Rattle.image_records.specs.declared.ExprKind.TheVariants as K
use Rattle.expr_laws.specs.Exprs.{exprs_of, Listed, Readable, width_at_law, in_exprs, width_least, width_read, kind_read, listed_read}
use Rattle.image_records.specs.contracts.ExprKind.{the_type as kind-type}
use Rattle.image_records.specs.OpClass.{op_class_of, adds_of, add_class}
use Rattle.image_records.specs.declared.OpClass.{OpClass}
use Rattle.image_records.specs.contracts.OpClass.{the_type}
use Rattle.image_records.specs.declared.OpClass.TheVariants as C
use Rattle.expr_fusion.specs.Fusion.{parts_of}
use Rattle.scratch_view.specs.Rows.{length_list_of, sum_suc}
use Rattle.scratch_view.specs.View.{limit_of, state_of}
use Rattle.scratch_view.specs.Reads.{read_range}
use Rattle.walk_operands.specs.Tasks.{task_made, narrow_of, cut_to, Read}
use Rattle.walk_operands.specs.declared.Task.TheVariants as T
use Rattle.walk_operands.specs.declared.Job.{Job}
use Rattle.walk_operands.specs.Reads.{IsWhole, WholeIn, Parts, parts_width, MuxIn, OperandsIn, AddIn, add_made}
use Rattle.walk_operands.specs.AskedWhole.{AllWhole, SignalIn, SidesFit, Room, Tabled, Asked, BinaryIn}

-- ---- operators with two operands ----

adds_add : (op : BinaryOp) → adds_of (op_class_of op) ≡ true → binary_means op ≡ R.Add
unfolding op_class_of binary_means
adds_add B.Add e = refl
adds_add B.And e = absurd (true≢false (sym e))
adds_add B.Or e = absurd (true≢false (sym e))
adds_add B.Xor e = absurd (true≢false (sym e))
adds_add B.Sub e = absurd (true≢false (sym e))
adds_add B.Mul e = absurd (true≢false (sym e))
adds_add B.Equal e = absurd (true≢false (sym e))
adds_add B.NotEqual e = absurd (true≢false (sym e))
adds_add B.LessThanUnsigned e = absurd (true≢false (sym e))
adds_add B.LessThanSigned e = absurd (true≢false (sym e))
adds_add B.LessOrEqualUnsigned e = absurd (true≢false (sym e))
adds_add B.LessOrEqualSigned e = absurd (true≢false (sym e))
adds_add B.GreaterThanUnsigned e = absurd (true≢false (sym e))
adds_add B.GreaterThanSigned e = absurd (true≢false (sym e))
adds_add B.GreaterOrEqualUnsigned e = absurd (true≢false (sym e))
adds_add B.GreaterOrEqualSigned e = absurd (true≢false (sym e))
adds_add B.ShiftLeft e = absurd (true≢false (sym e))
adds_add B.ShiftRightLogical e = absurd (true≢false (sym e))
adds_add B.ShiftRightArithmetic e = absurd (true≢false (sym e))

carry_whole : (s w : List ℕ) (x y : ℕ) (c : Option ℕ) → x < count_at_of s 1 → y < count_at_of s 1 → CarryBelow (count_at_of s 1) c
    → AllWhole s w (operand_steps (record { lhs = x; rhs = y; carry = c })) → OperandsIn s w (record { lhs = x; rhs = y; carry = c })
carry_whole s w x y none hx hy hc a = record { lhs = record { there = hx; whole = a.0 }; rhs = record { there = hy; whole = a.1.0 }; carry = tt }
carry_whole s w x y (some c) hx hy hc a = record { lhs = record { there = hx; whole = a.0 }; rhs = record { there = hy; whole = a.1.0 }; carry = record { there = hc; whole = a.1.1.0 } }

carry_less : (e n : ℕ) (c : Option ℕ) → e < n → CarryBelow e c → CarryBelow n c
carry_less e n none h b = tt
carry_less e n (some c) h b = omega arith

module _ (s w : List ℕ) (e : ℕ) (op : BinaryOp) (a b : ℕ) (h : BinaryIn s w e op a b) where
  operands_in : OperandsIn s w (operands_of (exprs_of s) (binary_means op) a b)
  operands_in =
      let t = h.tabled in
      let o = operands (exprs_of s) t.readable.formed (λ p j. false) e (in_exprs s t.readable e t.inside) (binary_means op) a b h.is in
      let q = operands_of (exprs_of s) (binary_means op) a b in
      carry_whole s w q.lhs q.rhs q.carry (omega (arith, o.lhs_below, t.inside)) (omega (arith, o.rhs_below, t.inside))
      (carry_less e (count_at_of s 1) q.carry t.inside o.carry_below) h.whole

  pub add_in : (r : OpClass) → r ≡ op_class_of op → r ≡ C.Adds → AddIn s w e a b
  add_in r q z =
      let m : binary_means op ≡ R.Add = adds_add op (ap adds_of (sym q ∙ z)) in
      let t = h.tabled in
      record {
        laid = t.laid;
        readable = t.readable;
        inside = t.inside;
        is = h.is ∙ ap (λ (o : R.Binary). R.Bin o a b) m;
        narrowed = t.narrowed;
        operands = rw m at operands_in;
      }

  pub add_made_law : {m : ℕ} (r : OpClass) (j : Job) (xs ys : List ℕ) → r ≡ op_class_of op → r ≡ C.Adds → Read m (λ l. add_made s l w e a b) s (expr_width s e) j xs ys
      → Read m (λ l. build_binary (exprs_of s) (state_of s l w) e (expr_width s e) (binary_means op) a b) s (expr_width s e) j xs ys
  add_made_law r j xs ys q z p =
      let is : binary_means op ≡ R.Add = adds_add op (ap adds_of (sym q ∙ z)) in
      record { says = λ l. ap (λ (o : R.Binary). build_binary (exprs_of s) (state_of s l w) e (expr_width s e) o a b) is ∙ p.says l; fits = p.fits }

  module _ (no : is_add (class_of (binary_means op)) ≡ false) where
    plain : operands_of (exprs_of s) (binary_means op) a b ≡ record { lhs = a; rhs = b; carry = none }
    unfolding operands_of
    plain = rw no

    plain_in : OperandsIn s w (record { lhs = a; rhs = b; carry = none })
    plain_in = rw plain at operands_in

    pub plain_sides : WholeIn s w a × WholeIn s w b
    plain_sides = (plain_in.lhs, plain_in.rhs)

    pub plain_width : BinWidth (binary_means op) (expr_width s e) (expr_width s a) (expr_width s b)
    plain_width =
        let t = h.tabled in
        let o : WidthOk (width_at (exprs_of s)) (width_at (exprs_of s) e) (R.Bin (binary_means op) a b) = rw h.is at (t.readable.formed.wide e (in_exprs s t.readable e t.inside)) in
        rw (width_at_law s t.readable e t.inside, width_at_law s t.readable a plain_in.lhs.there, width_at_law s t.readable b plain_in.rhs.there) at o

    pub plain_made : {m : ℕ} (j : Job) (v : ℕ) (xs ys : List ℕ) → v ≡ expr_width s e
        → Read m (λ l. lower_binary (binary_means op) (whole_nets (state_of s l w) a) (whole_nets (state_of s l w) b) l) s v j xs ys
        → Read m (λ l. build_binary (exprs_of s) (state_of s l w) e (expr_width s e) (binary_means op) a b) s (expr_width s e) j xs ys
    unfolding build_binary
    plain_made {m} j v xs ys q p =
        let r : Read m (λ l. lower_binary (binary_means op) (whole_nets (state_of s l w) a) (whole_nets (state_of s l w) b) l) s (expr_width s e) j xs ys = rw q at p in
        record { says = λ l. rw (no, plain) (r.says l); fits = r.fits }

-- another operator than an Add
pub not_adds : (r : OpClass) → OneOf (0 ∷ 1 ∷ 3 ∷ 4 ∷ []) (tag_of the_type r) → adds_of r ≡ false
not_adds C.Adds t = absurd (⊎_elim (eqb-false 2 0 refl) (⊎_elim (eqb-false 2 1 refl) (⊎_elim (eqb-false 2 3 refl) (eqb-false 2 4 refl))) t)
not_adds C.Ands t = refl
not_adds C.Ors t = refl
not_adds C.Subtracts t = refl
not_adds C.Other t = refl

pub no_add : (op : BinaryOp) (r : OpClass) → r ≡ op_class_of op → adds_of r ≡ false → is_add (class_of (binary_means op)) ≡ false
no_add op r q z = add_class op ∙ ap adds_of (sym q) ∙ z

-- ---- nets that are only copied ----

pub paste_nets : (xs xs' ns : List ℕ) (n : ℕ) → length ns ≡ n → xs' ≡ paste xs 0 ns n → take n xs' ≡ ns
paste_nets xs xs' ns n h p =
    ap (take n) p ∙ ap (λ (j : ℕ). take j (paste xs 0 ns n)) (sym (zero-add n)) ∙ take-paste xs 0 ns n (omega arith) (omega arith)
    ∙ ap (λ (j : ℕ). take j ns) (sym h) ∙ take-length ns

pub copied_read : {m : ℕ} (model : Netlist → Made (List ℕ)) (f : Netlist → List ℕ) (s : List ℕ) (v : ℕ) (j : Job) (xs ys : List ℕ) → 1 ≤ v → v ≤ m
    → j ≡ record { task = T.Copied; narrow = 0 } → ((l : Netlist) → model l ≡ done (f l, l)) → ((l : Netlist) → take v xs ≡ f l) → Read m model s v j xs ys
unfolding task_made narrow_of cut_to
copied_read model f s v j xs ys least most q o n = rw q (record {
  says = λ l. o l ∙ ap (λ (ns : List ℕ). done (ns, l)) (sym (n l));
  fits = record { least = least; most = most; narrow = omega arith; task = tt };
})

pub signals_long : (st : State) (p lsb n : ℕ) → length (signal_nets st p lsb n) ≡ n
unfolding signal_nets
signals_long st p lsb n = length-map (from lsb n) _ ∙ length_from lsb n

pub range_long : (s w : List ℕ) (l : Netlist) (a lsb n : ℕ) → a < count_at_of s 1 → lsb + n ≤ expr_width s a → length (range_nets (state_of s l w) a lsb n) ≡ n
range_long s w l a lsb n u v = ap length (read_range s (limit_of w) l w a u lsb n v) ∙ length_list_of n _

-- ---- by kind ----

-- the sum of a list's widths, and of its places
pub sums : (f g h : ℕ → ℕ) (b n : ℕ) → ((i : ℕ) → i < n → g (f (b + i)) ≡ h (b + i)) → sum_to h (b + n) ≡ sum_to h b + sum_of g (each f b n)
unfolding each
sums f g h b zero q = let m : b + 0 ≡ b = omega arith in ap (sum_to h) m ∙ omega arith
sums f g h b (suc n) q =
    let m : b + suc n ≡ suc b + n = omega arith in
    let z : b + 0 ≡ b = omega arith in
    let o : g (f b) ≡ h b = rw z at (q 0 (omega arith)) in
    let r = sums f g h (suc b) n (λ i u. let y : b + suc i ≡ suc b + i = omega arith in rw y at (q (suc i) (omega arith))) in
    omega (arith, ap (sum_to h) m, sum_suc h b, r, o)

abbrev AllIn : List ℕ → List ℕ → List ℕ → Type 0
AllIn s w [] = Unit {0}
AllIn s w (p ∷ ps) = IsWhole s w p × AllIn s w ps

turned : (s w ps acc : List ℕ) → AllWhole s w (wholes (backwards ps acc)) → AllIn s w ps × AllWhole s w (wholes acc)
turned s w [] acc h = (tt, h)
turned s w (p ∷ ps) acc h = let r = turned s w ps (p ∷ acc) h in ((r.1.0, r.0), r.1.1)

in_each : (s w : List ℕ) (f : ℕ → ℕ) (b n : ℕ) → AllIn s w (each f b n) → (i : ℕ) → i < n → IsWhole s w (f (b + i))
unfolding each
in_each s w f b zero h i u = absurd (omega arith)
in_each s w f b (suc n) h zero u = let m : b + 0 ≡ b = omega arith in rw m h.0
in_each s w f b (suc n) h (suc i) u = let m : b + suc i ≡ suc b + i = omega arith in rw m (in_each s w f (suc b) n h.1 i (omega arith))

pub below_each : (x : ℕ) (f : ℕ → ℕ) (b n : ℕ) → AllBelow x (each f b n) → (i : ℕ) → i < n → f (b + i) < x
unfolding each
below_each x f b zero h i u = absurd (omega arith)
below_each x f b (suc n) h zero u = let m : b + 0 ≡ b = omega arith in rw m h.0
below_each x f b (suc n) h (suc i) u = let m : b + suc i ≡ suc b + i = omega arith in rw m (below_each x f (suc b) n h.1 i (omega arith))

module _ (s w : List ℕ) (e : ℕ) (h : Asked s w e) (x : Expression) (d : Decoded s e x) where
  abbrev t : Tabled s w e
  t = h.tabled

  pub width_is : x.width ≡ expr_width s e
  width_is = width_read s t.readable e t.inside x d

  pub least : 1 ≤ x.width
  least = omega (arith, width_is, width_least s t.readable e t.inside)

  pub most : x.width ≤ 1024
  most = omega (arith, width_is, t.readable.most e t.inside)

  pub fit : {m : ℕ} → Room s m e → x.width ≤ m
  fit r = omega (arith, width_is, r.most)

  module _ (k : R.Kind) (is : (ranges.expr_at (exprs_of s) e).kind ≡ k) where
    made : (st : State) → build_whole (exprs_of s) false st e ≡ build_kind (exprs_of s) false st e (expr_width s e) k
    unfolding build_whole
    made st = rw (is, width_at_law s t.readable e t.inside)

    steps : AllWhole s w (kind_steps (exprs_of s) (width_at (exprs_of s) e) k)
    unfolding whole_steps
    steps = rw is at h.whole

    low : BelowE e k
    low = rw is at (t.readable.formed.low e (in_exprs s t.readable e t.inside))

    wide : WidthOk (width_at (exprs_of s)) (expr_width s e) k
    wide = rw (is, width_at_law s t.readable e t.inside) at (t.readable.formed.wide e (in_exprs s t.readable e t.inside))

    signal : SignalIn s (expr_width s e) k
    signal = rw is at t.signals

    -- what was read by the width of the record
    pub by_width : {m : ℕ} (j : Job) (xs ys : List ℕ) (model : Netlist → Made (List ℕ)) → ((l : Netlist) → model l ≡ build_kind (exprs_of s) false (state_of s l w) e (expr_width s e) k)
        → Read m model s x.width j xs ys → Read m (λ l. build_whole (exprs_of s) false (state_of s l w) e) s (expr_width s e) j xs ys
    by_width {m} j xs ys model o p =
        let r : Read m model s (expr_width s e) j xs ys = rw width_is at p in
        record { says = λ l. made (state_of s l w) ∙ sym (o l) ∙ r.says l; fits = r.fits }

  sides_fit : (m : ℕ) → Room s m e → (k : R.Kind) → (ranges.expr_at (exprs_of s) e).kind ≡ k → SidesFit s m k
  sides_fit m o k is = rw is at o.sides

  abbrev kind_is : (k : ExprKind) → x.kind ≡ k → (ranges.expr_at (exprs_of s) e).kind ≡ kind_means s x.width k
  kind_is k q = kind_read s t.readable e t.inside x d ∙ ap (kind_means s x.width) q

  module _ (p lsb : ℕ) (q : x.kind ≡ K.Signal p lsb) where
    pub signal_in : (p < count_at_of s 0) × (lsb + x.width ≤ signal_width s p)
    unfolding kind_means
    signal_in = let g = signal (R.Signal p lsb) (kind_is (K.Signal p lsb) q) in (g.0, omega (arith, g.1, width_is))

    pub signal_read : {m : ℕ} → Room s m e → (j : Job) (xs xs' ys : List ℕ) → ((l : Netlist) → xs' ≡ paste xs 0 (signal_nets (state_of s l w) p lsb x.width) x.width)
        → j ≡ record { task = T.Copied; narrow = 0 } → Read m (λ l. build_whole (exprs_of s) false (state_of s l w) e) s (expr_width s e) j xs' ys
    unfolding kind_means
    signal_read o j xs xs' ys c z =
        by_width (R.Signal p lsb) (kind_is (K.Signal p lsb) q) j xs' ys (λ l. done (signal_nets (state_of s l w) p lsb x.width, l)) (λ l. rw width_is)
        (copied_read _ (λ l. signal_nets (state_of s l w) p lsb x.width) s x.width j xs' ys least (fit o) z (λ l. refl)
        (λ l. paste_nets xs xs' _ x.width (signals_long (state_of s l w) p lsb x.width) (c l)))

  module _ (a lsb : ℕ) (q : x.kind ≡ K.Slice a lsb) where
    pub slice_in : (a < count_at_of s 1) × (lsb + x.width ≤ expr_width s a)
    unfolding kind_means
    slice_in =
        let l : BelowE e (R.Slice a lsb) = low (R.Slice a lsb) (kind_is (K.Slice a lsb) q) in
        let u : a < count_at_of s 1 = omega (arith, t.inside) in
        let o : WidthOk (width_at (exprs_of s)) (expr_width s e) (R.Slice a lsb) = wide (R.Slice a lsb) (kind_is (K.Slice a lsb) q) in
        (u, omega (arith, width_is, width_at_law s t.readable a u))

    pub slice_read : {m : ℕ} → Room s m e → (j : Job) (xs xs' ys : List ℕ) → ((l : Netlist) → xs' ≡ paste xs 0 (range_nets (state_of s l w) a lsb x.width) x.width)
        → j ≡ record { task = T.Copied; narrow = 0 } → Read m (λ l. build_whole (exprs_of s) false (state_of s l w) e) s (expr_width s e) j xs' ys
    unfolding kind_means
    slice_read o j xs xs' ys c z =
        by_width (R.Slice a lsb) (kind_is (K.Slice a lsb) q) j xs' ys (λ l. done (range_nets (state_of s l w) a lsb x.width, l)) (λ l. rw width_is)
        (copied_read _ (λ l. range_nets (state_of s l w) a lsb x.width) s x.width j xs' ys least (fit o) z (λ l. refl)
        (λ l. paste_nets xs xs' _ x.width (range_long s w l a lsb x.width slice_in.0 slice_in.1) (c l)))

  module _ (start : ℕ) (q : x.kind ≡ K.Constant start) where
    pub constant_read : {m : ℕ} → Room s m e → (xs ys : List ℕ) → Read m (λ l. build_whole (exprs_of s) false (state_of s l w) e) s (expr_width s e) (record { task = T.Constant start x.width 0; narrow = 0 }) xs ys
    unfolding kind_means task_made narrow_of cut_to
    constant_read o xs ys =
        let n = constant_of s x.width start in
        let g : Listed (expr_width s e) (K.Constant start) = rw q at (listed_read s t.readable e t.inside x d) in
        let all : take x.width (bits x.width n) ≡ bits x.width n =
        ap (λ (k : ℕ). take k (bits x.width n)) (sym (length_bits x.width n)) ∙ take-length (bits x.width n) in
        by_width (R.Constant n) (kind_is (K.Constant start) q) _ xs ys _ (λ l. rw (all, width_is)) (record {
          says = λ l. refl;
          fits = record { least = least; most = fit o; narrow = omega arith; task = (omega arith, most, rw width_is g) };
        })

  module _ (op : UnaryOp) (a : ℕ) (q : x.kind ≡ K.Unary op a) where
    pub unary_in : WholeIn s w a
    unfolding kind_means
    unary_in =
        let l : BelowE e (R.Un (unary_means op) a) = low (R.Un (unary_means op) a) (kind_is (K.Unary op a) q) in
        record { there = omega (arith, t.inside); whole = (steps (R.Un (unary_means op) a) (kind_is (K.Unary op a) q)).0 }

    pub unary_fit : {m : ℕ} → Room s m e → expr_width s a ≤ m
    unfolding kind_means
    unary_fit {m} o = sides_fit m o (R.Un (unary_means op) a) (kind_is (K.Unary op a) q)

    pub unary_width_law : UnWidth (unary_means op) x.width (expr_width s a)
    unfolding kind_means
    unary_width_law =
        let o : WidthOk (width_at (exprs_of s)) (expr_width s e) (R.Un (unary_means op) a) = wide (R.Un (unary_means op) a) (kind_is (K.Unary op a) q) in
        rw width_is (rw (width_at_law s t.readable a unary_in.there) at o)

    pub unary_made : {m : ℕ} (j : Job) (xs ys : List ℕ) → Read m (λ l. lower_unary (unary_means op) (whole_nets (state_of s l w) a) l) s x.width j xs ys
        → Read m (λ l. build_whole (exprs_of s) false (state_of s l w) e) s (expr_width s e) j xs ys
    unfolding kind_means
    unary_made j xs ys r = by_width (R.Un (unary_means op) a) (kind_is (K.Unary op a) q) j xs ys _ (λ l. refl) r

  module _ (op : BinaryOp) (a b : ℕ) (q : x.kind ≡ K.Binary op a b) where
    pub binary_in : BinaryIn s w e op a b
    unfolding kind_means
    binary_in = record { tabled = t; is = kind_is (K.Binary op a b) q; whole = steps (R.Bin (binary_means op) a b) (kind_is (K.Binary op a b) q) }

    pub binary_fit : {m : ℕ} → Room s m e → (expr_width s a ≤ m) × (expr_width s b ≤ m)
    unfolding kind_means
    binary_fit {m} o = sides_fit m o (R.Bin (binary_means op) a b) (kind_is (K.Binary op a b) q)

    pub binary_made : {m : ℕ} (j : Job) (xs ys : List ℕ) → Read m (λ l. build_binary (exprs_of s) (state_of s l w) e (expr_width s e) (binary_means op) a b) s (expr_width s e) j xs ys
        → Read m (λ l. build_whole (exprs_of s) false (state_of s l w) e) s (expr_width s e) j xs ys
    unfolding kind_means
    binary_made j xs ys r = record { says = λ l. made (R.Bin (binary_means op) a b) (kind_is (K.Binary op a b) q) (state_of s l w) ∙ r.says l; fits = r.fits }

  module _ (c a b : ℕ) (q : x.kind ≡ K.Mux c a b) where
    pub mux_in : MuxIn s w x.width c a b
    unfolding kind_means
    mux_in =
        let l : BelowE e (R.Mux c a b) = low (R.Mux c a b) (kind_is (K.Mux c a b) q) in
        let o : WidthOk (width_at (exprs_of s)) (expr_width s e) (R.Mux c a b) = wide (R.Mux c a b) (kind_is (K.Mux c a b) q) in
        let g = steps (R.Mux c a b) (kind_is (K.Mux c a b) q) in
        let ua : a < count_at_of s 1 = omega (arith, l.1, t.inside) in
        let ub : b < count_at_of s 1 = omega (arith, l.2, t.inside) in
        record {
          condition = record { there = omega (arith, l.0, t.inside); whole = g.0 };
          left = record { there = ua; whole = g.1.0 };
          right = record { there = ub; whole = g.1.1.0 };
          left_wide = sym (width_at_law s t.readable a ua) ∙ o.1 ∙ sym width_is;
          right_wide = sym (width_at_law s t.readable b ub) ∙ o.2 ∙ sym width_is;
        }

    pub mux_made : {m : ℕ} (j : Job) (xs ys : List ℕ)
        → Read m (λ l. build_mux none (whole_net (state_of s l w) c 0) (whole_nets (state_of s l w) a) (whole_nets (state_of s l w) b) l) s x.width j xs ys
        → Read m (λ l. build_whole (exprs_of s) false (state_of s l w) e) s (expr_width s e) j xs ys
    unfolding kind_means
    mux_made j xs ys r = by_width (R.Mux c a b) (kind_is (K.Mux c a b) q) j xs ys _ (λ l. refl) r

  module _ (start n : ℕ) (q : x.kind ≡ K.Concat start n) where
    pub parts_in : Parts s w start n
    unfolding kind_means list_of
    parts_in =
        let f : ℕ → ℕ = λ i. list_word s (start + i) in
        let g : Listed (expr_width s e) (K.Concat start n) = rw q at (listed_read s t.readable e t.inside x d) in
        let l = low (R.Concat (parts_of s start n)) (kind_is (K.Concat start n) q) in
        let u = (turned s w (parts_of s start n) [] (steps (R.Concat (parts_of s start n)) (kind_is (K.Concat start n) q))).0 in
        record {
          room = g;
          whole = λ i v.
              let m : 0 + i ≡ i = omega arith in
              let lo : f (0 + i) < e = below_each e f 0 n l i v in
              let wh : IsWhole s w (f (0 + i)) = in_each s w f 0 n u i v in
              let r : WholeIn s w (f (0 + i)) = record { there = omega (arith, t.inside); whole = wh } in
              rw m at r;
        }

    pub parts_wide : parts_width s start n ≡ x.width
    unfolding kind_means list_of sum_to
    parts_wide =
        let o : WidthOk (width_at (exprs_of s)) (expr_width s e) (R.Concat (parts_of s start n)) = wide (R.Concat (parts_of s start n)) (kind_is (K.Concat start n) q) in
        let m : 0 + n ≡ n = omega arith in
        let r = sums (λ i. list_word s (start + i)) (width_at (exprs_of s)) (λ i. expr_width s (list_word s (start + i))) 0 n (λ i u.
        let z : 0 + i ≡ i = omega arith in
        rw z (width_at_law s t.readable (list_word s (start + i)) (parts_in.whole i u).there)) in
        omega (arith, ap (parts_width s start) m, r, o, width_is)

    pub parts_read : {m : ℕ} → Room s m e → (j : Job) (xs ys : List ℕ) → ((l : Netlist) → take (parts_width s start n) xs ≡ part_nets (state_of s l w) (parts_of s start n))
        → j ≡ record { task = T.Copied; narrow = 0 } → Read m (λ l. build_whole (exprs_of s) false (state_of s l w) e) s (expr_width s e) j xs ys
    unfolding kind_means
    parts_read o j xs ys c z =
        by_width (R.Concat (parts_of s start n)) (kind_is (K.Concat start n) q) j xs ys (λ l. done (part_nets (state_of s l w) (parts_of s start n), l)) (λ l. refl)
        (copied_read _ (λ l. part_nets (state_of s l w) (parts_of s start n)) s x.width j xs ys least (fit o) z (λ l. refl) (λ l. ap (λ (k : ℕ). take k xs) (sym parts_wide) ∙ c l))

-- ---- room ----

module _ (s : List ℕ) (g : Readable s) (e : ℕ) (h : e < count_at_of s 1) where
  -- what is at most 1,024 wide has room in the largest lists
  pub room_all : Room s 1024 e
  room_all = record { most = g.most e h; sides = by (ranges.expr_at (exprs_of s) e).kind (g.formed.low e (in_exprs s g e h)) }
    where
      by : (k : R.Kind) → BelowE e k → SidesFit s 1024 k
      by (R.Signal p lsb) l = tt
      by (R.Constant n) l = tt
      by (R.Un op a) l = g.most a (omega arith)
      by (R.Bin op a b) l = (g.most a (omega (arith, l.0)), g.most b (omega (arith, l.1)))
      by (R.Mux c t f) l = tt
      by (R.Concat ps) l = tt
      by (R.Slice a lsb) l = tt

  module _ (x : Expression) (d : Decoded s e x) (m : ℕ) (most : x.width ≤ m) where
    room_by : SidesFit s m (kind_means s x.width x.kind) → Room s m e
    room_by o = record { most = omega (arith, width_read s g e h x d); sides = rw (kind_read s g e h x d) o }

    pub room_unary : (op : UnaryOp) (a : ℕ) → x.kind ≡ K.Unary op a → expr_width s a ≤ m → Room s m e
    unfolding kind_means
    room_unary op a q o = room_by (rw q o)

    pub room_binary : (op : BinaryOp) (a b : ℕ) → x.kind ≡ K.Binary op a b → expr_width s a ≤ m → expr_width s b ≤ m → Room s m e
    unfolding kind_means
    room_binary op a b q o p = room_by (rw q (o, p))

    pub room_other : OneOf (0 ∷ 1 ∷ 4 ∷ 5 ∷ 6 ∷ []) (tag_of kind-type x.kind) → Room s m e
    unfolding kind_means
    room_other t = room_by (by x.kind t)
      where
        by : (k : ExprKind) → OneOf (0 ∷ 1 ∷ 4 ∷ 5 ∷ 6 ∷ []) (tag_of kind-type k) → SidesFit s m (kind_means s x.width k)
        by (K.Signal p lsb) t = tt
        by (K.Constant start) t = tt
        by (K.Unary op a) t = absurd (⊎_elim (eqb-false 2 0 refl) (⊎_elim (eqb-false 2 1 refl) (⊎_elim (eqb-false 2 4 refl) (⊎_elim (eqb-false 2 5 refl) (eqb-false 2 6 refl)))) t)
        by (K.Binary op a b) t = absurd (⊎_elim (eqb-false 3 0 refl) (⊎_elim (eqb-false 3 1 refl) (⊎_elim (eqb-false 3 4 refl) (⊎_elim (eqb-false 3 5 refl) (eqb-false 3 6 refl)))) t)
        by (K.Mux c a b) t = tt
        by (K.Concat start n) t = tt
        by (K.Slice a lsb) t = tt
