-- For each kind of expression one law: what is asked lets ranges of its operands be read, and what was read is what the model makes.
-- Assumes nothing.
use mathlib.Core.Path.{◌≡◌, refl, sym, ap, ◌∙◌}
use mathlib.Core.Bool.{true, false, true≢false}
use mathlib.Core.List.{List}
use mathlib.Core.Option.{none}
use Prim.Native.Nat.{ℕ, ◌+◌, ◌≤◌, ◌<◌}
use native.Mathlib.Omega.{arith}
use lib.ListN.{take}
use lib.Seq.{paste}
use Rattle.spec_tests.specs.Rules.{list_of, sum_to}
use Rattle.spec_rtl.specs.Rtl as R
use Rattle.spec_rules.specs.Image.{count_at_of, expr_width, signal_width, list_word, constant_of}
use Rattle.spec_model.specs.Words.{Netlist}
use Rattle.spec_model.specs.Ranges.{width_at, class_of}
use Rattle.spec_model.specs.Ranges as ranges
use Rattle.spec_model.specs.Lowering.{State, is_bit_not, gate_of, range_gate, kind_range_steps, range_steps_of, signal_nets, range_nets, whole_net, piece_nets, concat_pieces, build_mux, range_kind, build_range}
use Rattle.word_laws.specs.Widths.{UnWidth, BinWidth, BelowE, WidthOk}
use Rattle.image_records.specs.Expr.{unary_means, binary_means, kind_means, Decoded}
use Rattle.image_records.specs.declared.UnaryOp.{UnaryOp}
use Rattle.image_records.specs.declared.UnaryOp.TheVariants as U
use Rattle.image_records.specs.declared.BinaryOp.{BinaryOp}
use Rattle.image_records.specs.declared.BinaryOp.TheVariants as B
use Rattle.image_records.specs.declared.Expression.{Expression}
use Rattle.image_records.specs.declared.ExprKind.{ExprKind}
use Rattle.image_records.specs.declared.ExprKind.TheVariants as K
use Rattle.image_records.specs.OpClass.{bitwise}
use Rattle.expr_laws.specs.Exprs.{exprs_of, Listed, width_at_law, in_exprs, width_read, kind_read, listed_read}
use Rattle.expr_fusion.specs.Fusion.{parts_of}
use Rattle.walk_operands.specs.Reads.{WholeIn, parts_width}
use Rattle.scratch_view.specs.View.{state_of}
use Rattle.walk_operands.specs.Tasks.{task_made, narrow_of, cut_to, Read}
use Rattle.walk_operands.specs.declared.Task.TheVariants as T
use Rattle.walk_operands.specs.declared.Job.{Job}
use Rattle.walk_operands.specs.AskedWhole.{AllWhole, SignalIn, Tabled}
use Rattle.walk_operands.proofs.WholeWays.{paste_nets, copied_read, signals_long, range_long, sums, below_each}
use Rattle.walk_operands.specs.AskedRange.{Within, AskedRange, PartsIn, not_made}

not_width : (op : UnaryOp) (w a : ℕ) → is_bit_not (unary_means op) ≡ true → UnWidth (unary_means op) w a → a ≡ w
unfolding unary_means
not_width U.BitNot w a q h = h
not_width U.LogicNot w a q h = absurd (true≢false (sym q))
not_width U.ReduceOr w a q h = absurd (true≢false (sym q))
not_width U.ReduceAnd w a q h = absurd (true≢false (sym q))
not_width U.ReduceXor w a q h = absurd (true≢false (sym q))

gate_width : (op : BinaryOp) (w a b : ℕ) → bitwise op ≡ true → BinWidth (binary_means op) w a b → (a ≡ w) × (b ≡ w)
unfolding bitwise binary_means
gate_width B.And w a b q h = h
gate_width B.Or w a b q h = h
gate_width B.Xor w a b q h = h
gate_width B.Add w a b q h = absurd (true≢false (sym q))
gate_width B.Sub w a b q h = absurd (true≢false (sym q))
gate_width B.Mul w a b q h = absurd (true≢false (sym q))
gate_width B.Equal w a b q h = absurd (true≢false (sym q))
gate_width B.NotEqual w a b q h = absurd (true≢false (sym q))
gate_width B.LessThanUnsigned w a b q h = absurd (true≢false (sym q))
gate_width B.LessThanSigned w a b q h = absurd (true≢false (sym q))
gate_width B.LessOrEqualUnsigned w a b q h = absurd (true≢false (sym q))
gate_width B.LessOrEqualSigned w a b q h = absurd (true≢false (sym q))
gate_width B.GreaterThanUnsigned w a b q h = absurd (true≢false (sym q))
gate_width B.GreaterThanSigned w a b q h = absurd (true≢false (sym q))
gate_width B.GreaterOrEqualUnsigned w a b q h = absurd (true≢false (sym q))
gate_width B.GreaterOrEqualSigned w a b q h = absurd (true≢false (sym q))
gate_width B.ShiftLeft w a b q h = absurd (true≢false (sym q))
gate_width B.ShiftRightLogical w a b q h = absurd (true≢false (sym q))
gate_width B.ShiftRightArithmetic w a b q h = absurd (true≢false (sym q))

module _ (s w : List ℕ) (e lsb n : ℕ) (h : AskedRange s w e lsb n) where
  abbrev t : Tabled s w e
  t = h.tabled

  pub own_range : Within s e lsb n
  own_range = record { there = t.inside; inside = h.inside }

  -- a range of an operand as wide as the expression
  same_range : (a : ℕ) → a < e → width_at (exprs_of s) a ≡ expr_width s e → Within s a lsb n
  same_range a l q =
      let u : a < count_at_of s 1 = omega (arith, t.inside) in
      record { there = u; inside = omega (arith, h.inside, width_at_law s t.readable a u) }

  module _ (x : Expression) (d : Decoded s e x) where
    width_is : x.width ≡ expr_width s e
    width_is = width_read s t.readable e t.inside x d

    module _ (k : R.Kind) (is : (ranges.expr_at (exprs_of s) e).kind ≡ k) where
      made : (st : State) → build_range (exprs_of s) false st e lsb n ≡ range_kind (exprs_of s) false st e lsb n (expr_width s e) k
      unfolding build_range
      made st = rw (is, width_at_law s t.readable e t.inside)

      steps : AllWhole s w (kind_range_steps (exprs_of s) e lsb n k)
      unfolding range_steps_of
      steps = rw is at h.whole

      low : BelowE e k
      low = rw is at (t.readable.formed.low e (in_exprs s t.readable e t.inside))

      wide : WidthOk (width_at (exprs_of s)) (expr_width s e) k
      wide = rw (is, width_at_law s t.readable e t.inside) at (t.readable.formed.wide e (in_exprs s t.readable e t.inside))

      signal : SignalIn s (expr_width s e) k
      signal = rw is at t.signals

      as_made : {m : ℕ} (j : Job) (xs ys : List ℕ) → Read m (λ l. range_kind (exprs_of s) false (state_of s l w) e lsb n (expr_width s e) k) s n j xs ys
          → Read m (λ l. build_range (exprs_of s) false (state_of s l w) e lsb n) s n j xs ys
      as_made j xs ys p = record { says = λ l. made (state_of s l w) ∙ p.says l; fits = p.fits }

    abbrev kind_is : (k : ExprKind) → x.kind ≡ k → (ranges.expr_at (exprs_of s) e).kind ≡ kind_means s x.width k
    kind_is k q = kind_read s t.readable e t.inside x d ∙ ap (kind_means s x.width) q

    module _ (p first : ℕ) (q : x.kind ≡ K.Signal p first) where
      pub signal_in : (p < count_at_of s 0) × (first + lsb + n ≤ signal_width s p)
      unfolding kind_means
      signal_in = let g = signal (R.Signal p first) (kind_is (K.Signal p first) q) in (g.0, omega (arith, g.1, h.inside))

      pub signal_few : first + lsb ≤ 1024
      signal_few = omega (arith, signal_in.1, t.laid.image.signal_most p signal_in.0)

      pub signal_read : {m : ℕ} → n ≤ m → (j : Job) (xs xs' ys : List ℕ) → ((l : Netlist) → xs' ≡ paste xs 0 (signal_nets (state_of s l w) p (first + lsb) n) n)
          → j ≡ record { task = T.Copied; narrow = 0 } → Read m (λ l. build_range (exprs_of s) false (state_of s l w) e lsb n) s n j xs' ys
      unfolding kind_means
      signal_read most j xs xs' ys c z =
          as_made (R.Signal p first) (kind_is (K.Signal p first) q) j xs' ys
          (copied_read _ (λ l. signal_nets (state_of s l w) p (first + lsb) n) s n j xs' ys h.least most z (λ l. refl)
          (λ l. paste_nets xs xs' _ n (signals_long (state_of s l w) p (first + lsb) n) (c l)))

    module _ (a first : ℕ) (q : x.kind ≡ K.Slice a first) where
      pub slice_in : Within s a (first + lsb) n
      unfolding kind_means
      slice_in =
          let l : BelowE e (R.Slice a first) = low (R.Slice a first) (kind_is (K.Slice a first) q) in
          let u : a < count_at_of s 1 = omega (arith, t.inside) in
          let o : WidthOk (width_at (exprs_of s)) (expr_width s e) (R.Slice a first) = wide (R.Slice a first) (kind_is (K.Slice a first) q) in
          record { there = u; inside = omega (arith, h.inside, width_at_law s t.readable a u) }

      pub slice_few : first + lsb ≤ 1024
      slice_few = omega (arith, slice_in.inside, t.readable.most a slice_in.there)

      pub slice_read : {m : ℕ} → n ≤ m → (j : Job) (xs xs' ys : List ℕ) → ((l : Netlist) → xs' ≡ paste xs 0 (range_nets (state_of s l w) a (first + lsb) n) n)
          → j ≡ record { task = T.Copied; narrow = 0 } → Read m (λ l. build_range (exprs_of s) false (state_of s l w) e lsb n) s n j xs' ys
      unfolding kind_means
      slice_read most j xs xs' ys c z =
          as_made (R.Slice a first) (kind_is (K.Slice a first) q) j xs' ys
          (copied_read _ (λ l. range_nets (state_of s l w) a (first + lsb) n) s n j xs' ys h.least most z (λ l. refl)
          (λ l. paste_nets xs xs' _ n (range_long s w l a (first + lsb) n slice_in.there slice_in.inside) (c l)))

    module _ (start : ℕ) (q : x.kind ≡ K.Constant start) where
      pub constant_read : {m : ℕ} → n ≤ m → (xs ys : List ℕ) → Read m (λ l. build_range (exprs_of s) false (state_of s l w) e lsb n) s n (record { task = T.Constant start x.width lsb; narrow = 0 }) xs ys
      unfolding kind_means task_made narrow_of cut_to
      constant_read most xs ys =
          let g : Listed (expr_width s e) (K.Constant start) = rw q at (listed_read s t.readable e t.inside x d) in
          as_made (R.Constant (constant_of s x.width start)) (kind_is (K.Constant start) q) _ xs ys (record {
            says = λ l. rw width_is;
            fits = record { least = h.least; most = most; narrow = omega arith; task = (omega (arith, h.inside, width_is), omega (arith, width_is, t.readable.most e t.inside), rw width_is g) };
          })

    module _ (op : UnaryOp) (a : ℕ) (q : x.kind ≡ K.Unary op a) where
      pub unary_in : is_bit_not (unary_means op) ≡ true → Within s a lsb n
      unfolding kind_means
      unary_in b = same_range a (low (R.Un (unary_means op) a) (kind_is (K.Unary op a) q)) (not_width op _ _ b (wide (R.Un (unary_means op) a) (kind_is (K.Unary op a) q)))

      pub unary_made : {m : ℕ} (j : Job) (xs ys : List ℕ) → Read m (λ l. not_made (is_bit_not (unary_means op)) (state_of s l w) e a lsb n) s n j xs ys
          → Read m (λ l. build_range (exprs_of s) false (state_of s l w) e lsb n) s n j xs ys
      unfolding kind_means
      unary_made j xs ys r = as_made (R.Un (unary_means op) a) (kind_is (K.Unary op a) q) j xs ys r

    module _ (op : BinaryOp) (a b : ℕ) (q : x.kind ≡ K.Binary op a b) where
      pub binary_in : bitwise op ≡ true → Within s a lsb n × Within s b lsb n
      unfolding kind_means
      binary_in g =
          let l : BelowE e (R.Bin (binary_means op) a b) = low (R.Bin (binary_means op) a b) (kind_is (K.Binary op a b) q) in
          let o = gate_width op _ _ _ g (wide (R.Bin (binary_means op) a b) (kind_is (K.Binary op a b) q)) in
          (same_range a l.0 o.0, same_range b l.1 o.1)

      pub binary_made : {m : ℕ} (j : Job) (xs ys : List ℕ) → Read m (λ l. range_gate (gate_of (class_of (binary_means op))) (state_of s l w) e a b lsb n) s n j xs ys
          → Read m (λ l. build_range (exprs_of s) false (state_of s l w) e lsb n) s n j xs ys
      unfolding kind_means
      binary_made j xs ys r = as_made (R.Bin (binary_means op) a b) (kind_is (K.Binary op a b) q) j xs ys r

    module _ (c a b : ℕ) (q : x.kind ≡ K.Mux c a b) where
      pub mux_in : WholeIn s w c × Within s a lsb n × Within s b lsb n
      unfolding kind_means
      mux_in =
          let l : BelowE e (R.Mux c a b) = low (R.Mux c a b) (kind_is (K.Mux c a b) q) in
          let o : WidthOk (width_at (exprs_of s)) (expr_width s e) (R.Mux c a b) = wide (R.Mux c a b) (kind_is (K.Mux c a b) q) in (
            record { there = omega (arith, l.0, t.inside); whole = (steps (R.Mux c a b) (kind_is (K.Mux c a b) q)).0 },
            same_range a l.1 o.1,
            same_range b l.2 o.2,
          )

      pub mux_made : {m : ℕ} (j : Job) (xs ys : List ℕ)
          → Read m (λ l. build_mux none (whole_net (state_of s l w) c 0) (range_nets (state_of s l w) a lsb n) (range_nets (state_of s l w) b lsb n) l) s n j xs ys
          → Read m (λ l. build_range (exprs_of s) false (state_of s l w) e lsb n) s n j xs ys
      unfolding kind_means
      mux_made j xs ys r = as_made (R.Mux c a b) (kind_is (K.Mux c a b) q) j xs ys r

    module _ (start k : ℕ) (q : x.kind ≡ K.Concat start k) where
      pub parts_in : PartsIn s start k
      unfolding kind_means list_of
      parts_in =
          let f : ℕ → ℕ = λ i. list_word s (start + i) in
          let g : Listed (expr_width s e) (K.Concat start k) = rw q at (listed_read s t.readable e t.inside x d) in
          let l = low (R.Concat (parts_of s start k)) (kind_is (K.Concat start k) q) in
          record {
            room = g;
            there = λ i v.
                let z : 0 + i ≡ i = omega arith in
                let lo : f (0 + i) < e = below_each e f 0 k l i v in
                let r : f (0 + i) < count_at_of s 1 = omega (arith, t.inside) in
                rw z at r;
          }

      pub parts_wide : parts_width s start k ≡ expr_width s e
      unfolding kind_means list_of sum_to
      parts_wide =
          let o : WidthOk (width_at (exprs_of s)) (expr_width s e) (R.Concat (parts_of s start k)) = wide (R.Concat (parts_of s start k)) (kind_is (K.Concat start k) q) in
          let z : 0 + k ≡ k = omega arith in
          let r = sums (λ i. list_word s (start + i)) (width_at (exprs_of s)) (λ i. expr_width s (list_word s (start + i))) 0 k (λ i u.
          let y : 0 + i ≡ i = omega arith in
          rw y (width_at_law s t.readable (list_word s (start + i)) (parts_in.there i u))) in
          omega (arith, ap (parts_width s start) z, r, o)

      pub pieces_read : {m : ℕ} → n ≤ m → (j : Job) (xs ys : List ℕ) → ((l : Netlist) → take n xs ≡ piece_nets (state_of s l w) (concat_pieces (exprs_of s) (parts_of s start k) lsb n))
          → j ≡ record { task = T.Copied; narrow = 0 } → Read m (λ l. build_range (exprs_of s) false (state_of s l w) e lsb n) s n j xs ys
      unfolding kind_means
      pieces_read most j xs ys c z =
          as_made (R.Concat (parts_of s start k)) (kind_is (K.Concat start k) q) j xs ys
          (copied_read _ (λ l. piece_nets (state_of s l w) (concat_pieces (exprs_of s) (parts_of s start k) lsb n)) s n j xs ys h.least most z (λ l. refl) c)
