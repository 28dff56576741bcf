-- For each way through the functions that read operands one law, from what they call to what they give. Assumes nothing.
use mathlib.Core.Path.{◌≡◌, refl, sym, ap, ◌∙◌, subst}
use mathlib.Core.Bool.{Bool, true, false, cond}
use mathlib.Core.List.{List, [], ◌++◌}
use mathlib.Core.Option.{Option, none, some}
use Prim.Native.Nat.{ℕ, zero, suc, ◌+◌, ◌-◌, ◌*◌, ◌≤◌, ◌<◌, max}
use native.Mathlib.Omega.{arith}
use native.Mathlib.Nat.{zero-add}
use lib.ListN.{length, get_or, take}
use lib.Seq.{paste, take-paste, take-take, take-length}
use lib.Dec.{ltb, ltb→lt}
use Rattle.spec_tests.specs.Rules.{each, list_of, sum_to}
use Rattle.spec_rtl.specs.Rtl as R
use Rattle.spec_rtl.specs.Rtl.{word}
use Rattle.spec_rules.specs.Image.{count_at_of, expr_width, list_word}
use Rattle.spec_model.specs.Words.{absent, Netlist}
use Rattle.spec_model.specs.Ranges.{width_at, adder_width, narrow_by, range_at}
use Rattle.spec_model.specs.Ranges as ranges
use Rattle.spec_model.specs.Lowering.{State, Operands, operands_of, range_nets, whole_nets, whole_net, part_nets, truncated, resized, lower_unary, lower_binary, build_operands, build_binary, build_mux}
use Rattle.word_laws.specs.Widths.{UnWidth, BinWidth, BelowE, word_width}
use Rattle.word_ranges.specs.Fusion.{Operate}
use Rattle.word_ranges.proofs.Fusion.{operands}
use Rattle.expr_range_rows.specs.Rows.{narrow_word}
use Rattle.image_records.specs.Expr.{unary_means, binary_means}
use Rattle.image_records.specs.declared.UnaryOp.{UnaryOp}
use Rattle.image_records.specs.declared.BinaryOp.{BinaryOp}
use Rattle.image_records.specs.declared.BinaryOp.TheVariants as BO
use Rattle.expr_laws.specs.Exprs.{exprs_of, width_at_law, in_exprs, width_least}
use Rattle.expr_fusion.specs.Fusion.{parts_of}
use Rattle.scratch_view.specs.Rows.{length_list_of, sum_suc}
use Rattle.scratch_view.specs.View as view
use Rattle.scratch_view.specs.View.{limit_of, net_word, is_whole, state_of, Laid}
use Rattle.scratch_view.specs.Laws.{net_word_some, expr_ends}
use Rattle.scratch_view.specs.Reads.{read_range, whole_nets_law, whole_net_law}
use Rattle.walk_operands.specs.Tasks.{task_made, narrow_of, cut_to, Read}
use Rattle.walk_operands.specs.declared.Task.TheVariants as T
use Rattle.walk_operands.specs.Reads.{WholeIn, CopiedWhole, parts_width, MuxIn, CarryIn, AddIn, add_made}

-- ---- copies ----

module _ (s w : List ℕ) (l : Netlist) (a : ℕ) (h : WholeIn s w a) where
  range_whole : range_nets (state_of s l w) a 0 (expr_width s a) ≡ whole_nets (state_of s l w) a
  range_whole = read_range s (limit_of w) l w a h.there 0 (expr_width s a) (omega arith) ∙ sym (whole_nets_law s (limit_of w) l w a h.there h.whole)

  pub whole_long : length (whole_nets (state_of s l w) a) ≡ expr_width s a
  whole_long = ap length (whole_nets_law s (limit_of w) l w a h.there h.whole) ∙ length_list_of (expr_width s a) _

pub whole_copied : (s w xs xs' : List ℕ) (a to k : ℕ) → WholeIn s w a → to + expr_width s a ≤ length xs → k ≡ expr_width s a
    → ((l : Netlist) → xs' ≡ paste xs to (range_nets (state_of s l w) a 0 k) k) → CopiedWhole s w a xs to k xs'
whole_copied s w xs xs' a to k h fit e p = record {
  width = e;
  nets = λ l.
      let q : range_nets (state_of s l w) a 0 k ≡ whole_nets (state_of s l w) a = ap (range_nets (state_of s l w) a 0) e ∙ range_whole s w l a h in
      let n : length (whole_nets (state_of s l w) a) ≡ k = whole_long s w l a h ∙ sym e in
      ap (take (to + k)) (p l ∙ ap (λ (v : List ℕ). paste xs to v k) q)
      ∙ take-paste xs to (whole_nets (state_of s l w) a) k (omega arith) (omega arith)
      ∙ ap (λ (v : List ℕ). take to xs ++ v) (ap (λ (j : ℕ). take j (whole_nets (state_of s l w) a)) (sym n) ∙ take-length (whole_nets (state_of s l w) a));
}

-- the whole list is the copy
pub copied_all : (s w xs xs' : List ℕ) (a k : ℕ) → CopiedWhole s w a xs 0 k xs' → (l : Netlist) → take k xs' ≡ whole_nets (state_of s l w) a
copied_all s w xs xs' a k c l = ap (λ (j : ℕ). take j xs') (sym (zero-add k)) ∙ c.nets l

-- ---- the parts of a Concat, from the last one ----

pub record PartsAt (s w : List ℕ) (start n : ℕ) (xs₀ xs : List ℕ) (at i : ℕ) : Type 0 where
  pub below : i ≤ n
  pub long : length xs ≡ length xs₀
  pub place : at + parts_width s start i ≡ parts_width s start n
  pub nets : (l : Netlist) → take at xs ≡ part_nets (state_of s l w) (each (λ j. list_word s (start + j)) i (n - i))

module _ (s w : List ℕ) (start n : ℕ) (xs₀ : List ℕ) where
  pub parts_begin : PartsAt s w start n xs₀ xs₀ 0 n
  unfolding each
  parts_begin =
      let z : n - n ≡ 0 = omega arith in
      record { below = omega arith; long = refl; place = omega arith; nets = λ l. ap (λ (k : ℕ). part_nets (state_of s l w) (each (λ j. list_word s (start + j)) n k)) (sym z) }

  parts_more : (st : State) (i : ℕ) → i < n → part_nets st (each (λ j. list_word s (start + j)) i (n - i))
      ≡ part_nets st (each (λ j. list_word s (start + j)) (suc i) (n - suc i)) ++ whole_nets st (list_word s (start + i))
  unfolding each
  parts_more st i h = let z : n - i ≡ suc (n - suc i) = omega arith in ap (λ (k : ℕ). part_nets st (each (λ j. list_word s (start + j)) i k)) z

  pub parts_turn : (xs xs' : List ℕ) (at i k : ℕ) → 0 < i → PartsAt s w start n xs₀ xs at i → length xs' ≡ length xs
      → CopiedWhole s w (list_word s (start + (i - 1))) xs at k xs' → PartsAt s w start n xs₀ xs' (at + k) (i - 1)
  parts_turn xs xs' at i k h p len c =
      let e : i ≡ suc (i - 1) = omega arith in
      let f : ℕ → ℕ = λ j. list_word s (start + j) in
      record {
        below = omega (arith, p.below);
        long = len ∙ p.long;
        place = omega (arith, p.place, c.width, ap (parts_width s start) e, sum_suc (λ j. expr_width s (list_word s (start + j))) (i - 1));
        nets = λ l.
            c.nets l
            ∙ ap (λ (ns : List ℕ). ns ++ whole_nets (state_of s l w) (f (i - 1))) (p.nets l ∙ ap (λ (j : ℕ). part_nets (state_of s l w) (each f j (n - j))) e)
            ∙ sym (parts_more (state_of s l w) (i - 1) (omega (arith, p.below)));
      }

  -- there is room for the next part
  pub parts_room : (xs : List ℕ) (at i : ℕ) → 0 < i → PartsAt s w start n xs₀ xs at i → at + expr_width s (list_word s (start + (i - 1))) ≤ parts_width s start n
  parts_room xs at i h p =
      let e : i ≡ suc (i - 1) = omega arith in
      omega (arith, p.place, ap (parts_width s start) e, sum_suc (λ j. expr_width s (list_word s (start + j))) (i - 1))

  pub parts_end : (xs : List ℕ) (at i : ℕ) → i ≤ 0 → PartsAt s w start n xs₀ xs at i → (l : Netlist)
      → take (parts_width s start n) xs ≡ part_nets (state_of s l w) (parts_of s start n)
  unfolding list_of sum_to
  parts_end xs at i h p l =
      let z : i ≡ 0 = omega arith in
      let a : at ≡ parts_width s start n = omega (arith, p.place, ap (parts_width s start) z) in
      let m : n - i ≡ n = omega arith in
      ap (λ (k : ℕ). take k xs) (sym a) ∙ p.nets l
      ∙ ap (λ (k : ℕ). part_nets (state_of s l w) (each (λ j. list_word s (start + j)) i k)) m
      ∙ ap (λ (k : ℕ). part_nets (state_of s l w) (each (λ j. list_word s (start + j)) k n)) z

-- ---- operators ----

module _ (s w : List ℕ) (h : Laid s w) (m : ℕ) where
  pub unary_read : (v : ℕ) (op : UnaryOp) (a k : ℕ) (xs xs' : List ℕ) → WholeIn s w a → UnWidth (unary_means op) v (expr_width s a) → 1 ≤ v → v ≤ m → expr_width s a ≤ m
      → CopiedWhole s w a xs 0 k xs' → (ys : List ℕ)
      → Read m (λ l. lower_unary (unary_means op) (whole_nets (state_of s l w) a) l) s v (record { task = T.Unary op k; narrow = 0 }) xs' ys
  unfolding task_made narrow_of cut_to
  unary_read v op a k xs xs' u f least most room c ys = record {
    says = λ l. ap (λ (ns : List ℕ). lower_unary (unary_means op) ns l) (sym (copied_all s w xs xs' a k c l));
    fits = record {
      least = least;
      most = most;
      narrow = omega arith;
      task = (rw c.width f, omega (arith, c.width, h.image.expr_some a u.there), omega (arith, c.width));
    };
  }

  pub mux_read : (v c t e k j i : ℕ) (xs xs' ys ys' : List ℕ) → MuxIn s w v c t e → 1 ≤ v → v ≤ m
      → ((l : Netlist) → is_whole s (limit_of w) w c ≡ true → k ≡ whole_net (state_of s l w) c 0)
      → CopiedWhole s w t xs 0 j xs' → CopiedWhole s w e ys 0 i ys'
      → Read m (λ l. build_mux none (whole_net (state_of s l w) c 0) (whole_nets (state_of s l w) t) (whole_nets (state_of s l w) e) l) s v (record { task = T.Mux k; narrow = 0 }) xs' ys'
  unfolding task_made narrow_of cut_to
  mux_read v c t e k j i xs xs' ys ys' u least most n p q =
      let a : j ≡ v = p.width ∙ u.left_wide in
      let b : i ≡ v = q.width ∙ u.right_wide in
      record {
        says = λ l.
            rw (← n l u.condition.whole, ← copied_all s w xs xs' t j p l, ← copied_all s w ys ys' e i q l, a, b);
        fits = record { least = least; most = most; narrow = omega arith; task = tt };
      }

  pub binary_read : (v : ℕ) (op : BinaryOp) (a b j k : ℕ) (xs xs' ys ys' : List ℕ) → WholeIn s w a → WholeIn s w b
      → BinWidth (binary_means op) v (expr_width s a) (expr_width s b) → 1 ≤ v → v ≤ m → expr_width s a ≤ m → expr_width s b ≤ m
      → CopiedWhole s w a xs 0 j xs' → CopiedWhole s w b ys 0 k ys'
      → Read m (λ l. lower_binary (binary_means op) (whole_nets (state_of s l w) a) (whole_nets (state_of s l w) b) l) s v (record { task = T.Binary op j k; narrow = 0 }) xs' ys'
  unfolding task_made narrow_of cut_to
  binary_read v op a b j k xs xs' ys ys' u x f least most left right p q = record {
    says = λ l. rw (← copied_all s w xs xs' a j p l, ← copied_all s w ys ys' b k q l);
    fits = record {
      least = least;
      most = most;
      narrow = omega arith;
      task = (
        rw (p.width, q.width) f,
        omega (arith, p.width, h.image.expr_some a u.there),
        omega (arith, p.width),
        omega (arith, q.width, h.image.expr_some b x.there),
        omega (arith, q.width),
      );
    };
  }

-- ---- narrowing ----

pub cut_none : (k v : ℕ) → k ≡ 0 → v ≡ cut_to k v
unfolding cut_to
cut_none k v e = rw e

pub cut_some : (k v : ℕ) → (k ≡ 0 → ⊥) → k ≡ cut_to k v
unfolding cut_to
cut_some zero v n = absurd (n refl)
cut_some (suc k) v n = refl

cut_least : (k v : ℕ) → 1 ≤ v → 1 ≤ cut_to k v
unfolding cut_to
cut_least zero v h = h
cut_least (suc k) v h = omega arith

cut_most : (k v : ℕ) → k ≤ v → cut_to k v ≤ v
unfolding cut_to
cut_most zero v h = omega arith
cut_most (suc k) v h = h

-- the first k + 1 nets, or all
cut_nets : (k v : ℕ) (ns : List ℕ) → length ns ≡ v → truncated (narrow_of k) ns ≡ take (cut_to k v) ns
unfolding narrow_of cut_to
cut_nets zero v ns e = sym (take-length ns) ∙ ap (λ (j : ℕ). take j ns) e
cut_nets (suc k) v ns e = refl

narrow_by_law : (v : ℕ) (r : Option ranges.Range) → (narrow_of (narrow_word (narrow_by v r)) ≡ narrow_by v r) × (narrow_word (narrow_by v r) ≤ v)
unfolding narrow_of
narrow_by_law v none = (refl, omega arith)
narrow_by_law v (some r) = go (max 1 (ranges.bit_len 64 r.hi)) (omega arith)
  where
    go : (k : ℕ) → 1 ≤ k → (narrow_of (narrow_word (cond (ltb k v) (some k) none)) ≡ cond (ltb k v) (some k) none) × (narrow_word (cond (ltb k v) (some k) none) ≤ v)
    go zero h = absurd (omega arith)
    go (suc k) h = by (ltb (suc k) v) refl
      where
        by : (t : Bool) → ltb (suc k) v ≡ t → (narrow_of (narrow_word (cond t (some (suc k)) none)) ≡ cond t (some (suc k)) none) × (narrow_word (cond t (some (suc k)) none) ≤ v)
        by true e = (refl, omega (arith, ltb→lt (suc k) v (rw e tt)))
        by false e = (refl, omega arith)

-- ---- additions ----

-- operands whose carry is known
pub carried_by : (x y d : ℕ) (k : Option ℕ) (o : Operands) → k ≡ some d → ◌≡◌ {A = Operands} (record { lhs = x; rhs = y; carry = k }) o
    → ◌≡◌ {A = Operands} (record { lhs = x; rhs = y; carry = some d }) o
carried_by x y d k o e q = subst (λ (k : Option ℕ). ◌≡◌ {A = Operands} (record { lhs = x; rhs = y; carry = k }) o) e q

nothing : Netlist
nothing = record { max_nets = 0; max_list = 0; nodes = []; records = [] }

module _ (s w : List ℕ) (e a b : ℕ) (i : AddIn s w e a b) where
  narrow_is : (narrow_of (narrow_word (adder_width (exprs_of s) e)) ≡ adder_width (exprs_of s) e) × (narrow_word (adder_width (exprs_of s) e) ≤ expr_width s e)
  unfolding adder_width
  narrow_is =
      let n = narrow_by_law (width_at (exprs_of s) e) (range_at (exprs_of s) e) in
      (n.0, omega (arith, n.1, width_at_law s i.readable e i.inside))

  operate : Operate (exprs_of s) (λ p j. false) e (width_at (exprs_of s) e) R.Add (operands_of (exprs_of s) R.Add a b)
  operate = operands (exprs_of s) i.readable.formed (λ p j. false) e (in_exprs s i.readable e i.inside) R.Add a b i.is

  wide : (x : ℕ) → x < e → length (word (exprs_of s) (λ p j. false) x) ≡ width_at (exprs_of s) e → expr_width s x ≡ expr_width s e
  wide x h q =
      let u : x < count_at_of s 1 = omega (arith, i.inside) in
      sym (width_at_law s i.readable x u) ∙ sym (word_width (exprs_of s) i.readable.formed (λ p j. false) x (in_exprs s i.readable x u))
      ∙ q ∙ width_at_law s i.readable e i.inside

  module _ (x y : ℕ) (c : Option ℕ) (q : ◌≡◌ {A = Operands} (record { lhs = x; rhs = y; carry = c }) (operands_of (exprs_of s) R.Add a b)) where
    pub lhs_in : WholeIn s w x
    lhs_in = rw (ap (λ (o : Operands). o.lhs) q) i.operands.lhs

    pub rhs_in : WholeIn s w y
    rhs_in = rw (ap (λ (o : Operands). o.rhs) q) i.operands.rhs

    pub lhs_wide : expr_width s x ≡ expr_width s e
    lhs_wide = wide x (rw (ap (λ (o : Operands). o.lhs) q) operate.lhs_below) (rw (ap (λ (o : Operands). o.lhs) q) (operate.lhs_wide refl))

    pub rhs_wide : expr_width s y ≡ expr_width s e
    rhs_wide = wide y (rw (ap (λ (o : Operands). o.rhs) q) operate.rhs_below) (rw (ap (λ (o : Operands). o.rhs) q) (operate.rhs_wide refl))

    module _ (n j g k : ℕ) (xs xs' ys ys' : List ℕ) (r : n ≡ narrow_word (adder_width (exprs_of s) e)) (p : CopiedWhole s w x xs 0 j xs') (p' : CopiedWhole s w y ys 0 g ys')
        (z : k ≡ cut_to n j) (m : ℕ) (most : expr_width s e ≤ m) where
      narrow_back : narrow_of n ≡ adder_width (exprs_of s) e
      narrow_back = ap narrow_of r ∙ narrow_is.0

      narrow_less : n ≤ expr_width s e
      narrow_less = omega (arith, narrow_is.1)

      cell_width : k ≡ cut_to n (expr_width s e)
      cell_width = z ∙ ap (cut_to n) (p.width ∙ lhs_wide)

      -- the first k nets of the copies are the operands, cut
      nets_cut : (l : Netlist) (o j' : ℕ) (us us' : List ℕ) → CopiedWhole s w o us 0 j' us' → expr_width s o ≡ expr_width s e → WholeIn s w o
          → truncated (narrow_of n) (whole_nets (state_of s l w) o) ≡ take k us'
      nets_cut l o j' us us' cp ow ho =
          let all : take j' us' ≡ whole_nets (state_of s l w) o = copied_all s w us us' o j' cp l in
          let v : j' ≡ expr_width s e = cp.width ∙ ow in
          cut_nets n (expr_width s e) (whole_nets (state_of s l w) o) (whole_long s w l o ho ∙ ow)
          ∙ ap (take (cut_to n (expr_width s e))) (sym all)
          ∙ take-take (cut_to n (expr_width s e)) j' us' (omega (arith, cut_most n (expr_width s e) narrow_less))
          ∙ ap (λ (d : ℕ). take d us') (sym cell_width)

      -- what the model makes of the operands o
      made : (l : Netlist) → add_made s l w e a b ≡ resized (narrow_of n) (expr_width s e) (build_operands R.Add (narrow_of n) (state_of s l w) (record { lhs = x; rhs = y; carry = c }))
      unfolding build_binary
      made l =
          ap (λ (o : Operands). resized (adder_width (exprs_of s) e) (expr_width s e) (build_operands R.Add (adder_width (exprs_of s) e) (state_of s l w) o)) (sym q)
          ∙ ap (λ (v : Option ℕ). resized v (expr_width s e) (build_operands R.Add v (state_of s l w) (record { lhs = x; rhs = y; carry = c }))) (sym narrow_back)

      fits : 1 ≤ k × (k ≤ m)
      fits =
          let d = width_least s i.readable e i.inside in
          (omega (arith, cell_width, cut_least n (expr_width s e) d), omega (arith, cell_width, cut_most n (expr_width s e) narrow_less))

      pub plain_read : c ≡ none → Read m (λ l. add_made s l w e a b) s (expr_width s e) (record { task = T.Binary BO.Add k k; narrow = n }) xs' ys'
      unfolding task_made binary_means
      plain_read is = record {
        says = λ l. made l ∙ rw (is, nets_cut l x j xs xs' p lhs_wide lhs_in, nets_cut l y g ys ys' p' rhs_wide rhs_in);
        fits = record {
          least = width_least s i.readable e i.inside;
          most = most;
          narrow = narrow_less;
          task = ((cell_width, cell_width), fits.0, fits.1, fits.0, fits.1);
        };
      }

      pub carried_read : (d f : ℕ) → c ≡ some d → ((l : Netlist) → f ≡ whole_net (state_of s l w) d 0) → f < absent
          → Read m (λ l. add_made s l w e a b) s (expr_width s e) (record { task = T.Carried k f; narrow = n }) xs' ys'
      unfolding task_made
      carried_read d f is h there = record {
        says = λ l. made l ∙ rw (is, nets_cut l x j xs xs' p lhs_wide lhs_in, nets_cut l y g ys ys' p' rhs_wide rhs_in, ← h l);
        fits = record {
          least = width_least s i.readable e i.inside;
          most = most;
          narrow = narrow_less;
          task = (cell_width, fits.0, fits.1, there);
        };
      }

  pub sides_in : (a < count_at_of s 1) × (b < count_at_of s 1)
  sides_in =
      let l : BelowE e (R.Bin R.Add a b) = rw i.is at (i.readable.formed.low e (in_exprs s i.readable e i.inside)) in
      (omega (arith, l.0, i.inside), omega (arith, l.1, i.inside))

  pub carry_in : (x y d : ℕ) → ◌≡◌ {A = Operands} (record { lhs = x; rhs = y; carry = some d }) (operands_of (exprs_of s) R.Add a b) → WholeIn s w d
  carry_in x y d q =
      let h : CarryIn s w (operands_of (exprs_of s) R.Add a b).carry = i.operands.carry in
      rw (← q) at h

  -- bit 0 of a carry has its net
  pub carry_net : (d f : ℕ) → WholeIn s w d → ((l : Netlist) → f ≡ whole_net (state_of s l w) d 0) → f < absent
  carry_net d f h q =
      let n = limit_of w in
      let v : 0 < expr_width s d = i.laid.image.expr_some d h.there in
      let x : ℕ = get_or w (view.bit_at s n d 0) 0 in
      let y : f ≡ net_word x = q nothing ∙ whole_net_law s n nothing w d h.there 0 v h.whole in
      omega (arith, y, net_word_some x (i.laid.wholes d 0 h.there v h.whole), i.laid.expr_nets (view.expr_bit s d 0) (omega (arith, expr_ends s d h.there)))

  -- word 6 of the expression, where the code finds it
  pub narrow_word_law : get_or w (get_or w 2 0 + 8 * e + 6) 0 ≡ narrow_word (adder_width (exprs_of s) e)
  narrow_word_law =
      let m : get_or w 2 0 + 8 * e + 6 ≡ view.expr_at s (limit_of w) e 6 = omega (arith, i.laid.exprs) in
      ap (λ (j : ℕ). get_or w j 0) m ∙ i.narrowed
