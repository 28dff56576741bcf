-- For each way through the functions that read ranges one law, from what they call to what they give. Assumes nothing.
use mathlib.Core.Path.{◌≡◌, refl, sym, ap, ◌∙◌}
use mathlib.Core.Bool.{Bool, true, false, cond, true≢false}
use mathlib.Core.List.{List, [], ◌∷◌, ◌++◌, append-nil, append_assoc}
use mathlib.Core.Logic.{⊎_elim}
use mathlib.Core.Option.{none}
use Prim.Native.Nat.{ℕ, zero, suc, ◌+◌, ◌-◌, ◌≤◌, ◌<◌, min, max}
use native.Mathlib.Omega.{arith}
use lib.Dec.{ltb}
use borrow.Author.Tests.{lt-ltb, le-ltb, eqb-false}
use types.Run.{OneOf}
use denote.Enum.Declared.{tag_of}
use lib.ListN.{length, take}
use lib.Seq.{paste, take-paste, take-length}
use Rattle.spec_model.specs.Words.{Netlist}
use Rattle.spec_model.specs.Builder.{Made, done}
use Rattle.spec_model.specs.Ranges.{class_of, width_at}
use Rattle.spec_model.specs.Lowering.{State, range_nets, range_gate, gate_of, is_bit_not, whole_net, build_mux, lower_unary, lower_binary, backwards, pieces, concat_pieces, piece_nets}
use Rattle.spec_rtl.specs.Rtl as R
use Rattle.spec_tests.specs.Rules.{each, list_of, sum_to}
use Rattle.spec_rules.specs.Image.{count_at_of, expr_width, list_word}
use Rattle.word_laws.specs.Widths.{BinWidth}
use Rattle.image_records.specs.Expr.{unary_means, binary_means}
use Rattle.image_records.specs.declared.UnaryOp.{UnaryOp}
use Rattle.image_records.specs.declared.UnaryOp.TheVariants as U
use Rattle.image_records.specs.declared.BinaryOp.{BinaryOp}
use Rattle.image_records.specs.declared.BinaryOp.TheVariants as B
use Rattle.image_records.specs.contracts.UnaryOp.{the_type as unary_type}
use Rattle.image_records.specs.OpClass.{bitwise}
use Rattle.expr_laws.specs.Exprs.{exprs_of}
use Rattle.expr_fusion.specs.Fusion.{parts_of}
use Rattle.walk_operands.specs.Reads.{parts_width}
use Rattle.scratch_view.specs.Rows.{sum_suc}
use Rattle.scratch_view.specs.Bounds.{expr_width_law}
use Rattle.scratch_view.specs.View.{state_of}
use Rattle.walk_operands.specs.Tasks.{task_made, narrow_of, cut_to, Read}
use Rattle.walk_operands.specs.declared.Task.TheVariants as T
use Rattle.walk_operands.proofs.WholeWays.{paste_nets, range_long}
use Rattle.walk_operands.specs.AskedRange.{Within, not_made, piece, CopiedPiece, PartsIn}

module _ (s w : List ℕ) where
  -- a copy of a range
  range_read : (xs xs' : List ℕ) (a lsb n : ℕ) → Within s a lsb n → ((l : Netlist) → xs' ≡ paste xs 0 (range_nets (state_of s l w) a lsb n) n)
      → (l : Netlist) → take n xs' ≡ range_nets (state_of s l w) a lsb n
  range_read xs xs' a lsb n u c l = paste_nets xs xs' (range_nets (state_of s l w) a lsb n) n (range_long s w l a lsb n u.there u.inside) (c l)

  own : {m : ℕ} (e lsb n : ℕ) (xs xs' ys : List ℕ) (model : Netlist → Made (List ℕ)) → Within s e lsb n → 1 ≤ n → n ≤ m
      → ((l : Netlist) → model l ≡ done (range_nets (state_of s l w) e lsb n, l)) → ((l : Netlist) → xs' ≡ paste xs 0 (range_nets (state_of s l w) e lsb n) n)
      → Read m model s n (record { task = T.Copied; narrow = 0 }) xs' ys
  unfolding task_made narrow_of cut_to
  own e lsb n xs xs' ys model u least most q c = record {
    says = λ l. q l ∙ ap (λ (ns : List ℕ). done (ns, l)) (sym (range_read xs xs' e lsb n u c l));
    fits = record { least = least; most = most; narrow = omega arith; task = tt };
  }

  pub not_read : {m : ℕ} (e lsb n a : ℕ) (op : UnaryOp) (xs xs' ys : List ℕ) → op ≡ U.BitNot → Within s a lsb n → 1 ≤ n → n ≤ m
      → ((l : Netlist) → xs' ≡ paste xs 0 (range_nets (state_of s l w) a lsb n) n)
      → Read m (λ l. not_made (is_bit_not (unary_means op)) (state_of s l w) e a lsb n) s n (record { task = T.Unary U.BitNot n; narrow = 0 }) xs' ys
  unfolding task_made narrow_of cut_to unary_means lower_unary
  not_read e lsb n a op xs xs' ys q u least most c = record {
    says = λ l. rw (q, range_read xs xs' a lsb n u c l);
    fits = record { least = least; most = most; narrow = omega arith; task = (refl, least, most) };
  }

  pub not_other : {m : ℕ} (e lsb n a : ℕ) (op : UnaryOp) (xs xs' ys : List ℕ) → is_bit_not (unary_means op) ≡ false → Within s e lsb n → 1 ≤ n → n ≤ m
      → ((l : Netlist) → xs' ≡ paste xs 0 (range_nets (state_of s l w) e lsb n) n)
      → Read m (λ l. not_made (is_bit_not (unary_means op)) (state_of s l w) e a lsb n) s n (record { task = T.Copied; narrow = 0 }) xs' ys
  not_other e lsb n a op xs xs' ys q u least most c = own e lsb n xs xs' ys _ u least most (λ l. rw q) c

  pub mux_read : {m : ℕ} (lsb n c t e k : ℕ) (xs xs' ys ys' : List ℕ) → Within s t lsb n → Within s e lsb n → 1 ≤ n → n ≤ m
      → ((l : Netlist) → k ≡ whole_net (state_of s l w) c 0)
      → ((l : Netlist) → xs' ≡ paste xs 0 (range_nets (state_of s l w) t lsb n) n) → ((l : Netlist) → ys' ≡ paste ys 0 (range_nets (state_of s l w) e lsb n) n)
      → Read m (λ l. build_mux none (whole_net (state_of s l w) c 0) (range_nets (state_of s l w) t lsb n) (range_nets (state_of s l w) e lsb n) l) s n (record { task = T.Mux k; narrow = 0 }) xs' ys'
  unfolding task_made narrow_of cut_to
  mux_read lsb n c t e k xs xs' ys ys' u v least most q p r = record {
    says = λ l. rw (← q l, range_read xs xs' t lsb n u p l, range_read ys ys' e lsb n v r l);
    fits = record { least = least; most = most; narrow = omega arith; task = tt };
  }

-- ---- operators bit by bit ----

abbrev BitOp : BinaryOp → Type 0
BitOp op = (st : State) (e a b lsb n : ℕ)
    → (range_gate (gate_of (class_of (binary_means op))) st e a b lsb n ≡ lower_binary (binary_means op) (range_nets st a lsb n) (range_nets st b lsb n) st.netlist)
    × BinWidth (binary_means op) n n n

absurdly : {A : Type 0} → ◌≡◌ {A = Bool} false true → A
absurdly e = absurd (true≢false (sym e))

bitwise_gate : (op : BinaryOp) → bitwise op ≡ true → BitOp op
unfolding bitwise binary_means lower_binary
bitwise_gate B.And q = λ st e a b lsb n. (refl, (refl, refl))
bitwise_gate B.Or q = λ st e a b lsb n. (refl, (refl, refl))
bitwise_gate B.Xor q = λ st e a b lsb n. (refl, (refl, refl))
bitwise_gate B.Add q = λ st e a b lsb n. absurdly q
bitwise_gate B.Sub q = λ st e a b lsb n. absurdly q
bitwise_gate B.Mul q = λ st e a b lsb n. absurdly q
bitwise_gate B.Equal q = λ st e a b lsb n. absurdly q
bitwise_gate B.NotEqual q = λ st e a b lsb n. absurdly q
bitwise_gate B.LessThanUnsigned q = λ st e a b lsb n. absurdly q
bitwise_gate B.LessThanSigned q = λ st e a b lsb n. absurdly q
bitwise_gate B.LessOrEqualUnsigned q = λ st e a b lsb n. absurdly q
bitwise_gate B.LessOrEqualSigned q = λ st e a b lsb n. absurdly q
bitwise_gate B.GreaterThanUnsigned q = λ st e a b lsb n. absurdly q
bitwise_gate B.GreaterThanSigned q = λ st e a b lsb n. absurdly q
bitwise_gate B.GreaterOrEqualUnsigned q = λ st e a b lsb n. absurdly q
bitwise_gate B.GreaterOrEqualSigned q = λ st e a b lsb n. absurdly q
bitwise_gate B.ShiftLeft q = λ st e a b lsb n. absurdly q
bitwise_gate B.ShiftRightLogical q = λ st e a b lsb n. absurdly q
bitwise_gate B.ShiftRightArithmetic q = λ st e a b lsb n. absurdly q

no_gate : (op : BinaryOp) → bitwise op ≡ false → gate_of (class_of (binary_means op)) ≡ none
unfolding bitwise binary_means
no_gate B.And q = absurd (true≢false q)
no_gate B.Or q = absurd (true≢false q)
no_gate B.Xor q = absurd (true≢false q)
no_gate B.Add q = refl
no_gate B.Sub q = refl
no_gate B.Mul q = refl
no_gate B.Equal q = refl
no_gate B.NotEqual q = refl
no_gate B.LessThanUnsigned q = refl
no_gate B.LessThanSigned q = refl
no_gate B.LessOrEqualUnsigned q = refl
no_gate B.LessOrEqualSigned q = refl
no_gate B.GreaterThanUnsigned q = refl
no_gate B.GreaterThanSigned q = refl
no_gate B.GreaterOrEqualUnsigned q = refl
no_gate B.GreaterOrEqualSigned q = refl
no_gate B.ShiftLeft q = refl
no_gate B.ShiftRightLogical q = refl
no_gate B.ShiftRightArithmetic q = refl

module _ (s w : List ℕ) (e lsb n : ℕ) (op : BinaryOp) (a b : ℕ) (least : 1 ≤ n) (m : ℕ) (most : n ≤ m) where
  pub gate_read : (xs xs' ys ys' : List ℕ) → bitwise op ≡ true → Within s a lsb n → Within s b lsb n
      → ((l : Netlist) → xs' ≡ paste xs 0 (range_nets (state_of s l w) a lsb n) n) → ((l : Netlist) → ys' ≡ paste ys 0 (range_nets (state_of s l w) b lsb n) n)
      → Read m (λ l. range_gate (gate_of (class_of (binary_means op))) (state_of s l w) e a b lsb n) s n (record { task = T.Binary op n n; narrow = 0 }) xs' ys'
  unfolding task_made narrow_of cut_to
  gate_read xs xs' ys ys' q u v p r = record {
    says = λ l. (bitwise_gate op q (state_of s l w) e a b lsb n).0 ∙ rw (range_read s w xs xs' a lsb n u p l, range_read s w ys ys' b lsb n v r l);
    fits = record {
      least = least;
      most = most;
      narrow = omega arith;
      task = ((bitwise_gate op q (state_of s (record { max_nets = 0; max_list = 0; nodes = []; records = [] }) w) e a b lsb n).1, least, most, least, most);
    };
  }

  pub gate_other : (xs xs' ys : List ℕ) → bitwise op ≡ false → Within s e lsb n → ((l : Netlist) → xs' ≡ paste xs 0 (range_nets (state_of s l w) e lsb n) n)
      → Read m (λ l. range_gate (gate_of (class_of (binary_means op))) (state_of s l w) e a b lsb n) s n (record { task = T.Copied; narrow = 0 }) xs' ys
  gate_other xs xs' ys q u c = own s w e lsb n xs xs' ys _ u least most (λ l. rw (no_gate op q)) c

-- ---- the parts of a Concat ----

module _ (s w : List ℕ) (p at lsb end : ℕ) (xs : List ℕ) (to k lo hi : ℕ) (u : p < count_at_of s 1) (ek : k ≡ expr_width s p) (el : lo ≡ max lsb at) (eh : hi ≡ min end (at + k)) where
  pub piece_inside : lo < hi → (lo - at) + (hi - lo) ≤ expr_width s p
  piece_inside g = omega arith

  width : hi - lo ≡ min end (at + expr_width s p) - max lsb at
  width = ap (λ (j : ℕ). hi - j) el ∙ ap (λ (j : ℕ). j - max lsb at) eh ∙ ap (λ (j : ℕ). min end (at + j) - max lsb at) ek

  pub piece_some : (xs' : List ℕ) → lo < hi → to ≤ length xs → ((l : Netlist) → xs' ≡ paste xs to (range_nets (state_of s l w) p (lo - at) (hi - lo)) (hi - lo))
      → CopiedPiece s w p at lsb end xs to (hi - lo) xs'
  piece_some xs' g fit c = record {
    width = width;
    nets = λ l.
        let ns = range_nets (state_of s l w) p (lo - at) (hi - lo) in
        let n : length ns ≡ hi - lo = range_long s w l p (lo - at) (hi - lo) u (piece_inside g) in
        let y : ltb (max lsb at) (min end (at + expr_width s p)) ≡ true = rw (← ek, ← el, ← eh) (lt-ltb lo hi g) in
        ap (take (to + (hi - lo))) (c l) ∙ take-paste xs to ns (hi - lo) fit (omega arith)
        ∙ ap (λ (j : ℕ). take to xs ++ take j ns) (sym n) ∙ ap (λ (v : List ℕ). take to xs ++ v) (take-length ns ∙ sym (append-nil ns))
        ∙ rw (y, el, eh, ek);
  }

  pub piece_none : hi ≤ lo → CopiedPiece s w p at lsb end xs to 0 xs
  piece_none g = record {
    width = (let z : 0 ≡ hi - lo = omega arith in z) ∙ width;
    nets = λ l.
        let y : ltb (max lsb at) (min end (at + expr_width s p)) ≡ false = rw (← ek, ← el, ← eh) (le-ltb lo hi g) in
        let z : to + 0 ≡ to = omega arith in
        ap (λ (j : ℕ). take j xs) z ∙ sym (append-nil (take to xs)) ∙ rw y;
  }

-- ---- what a wildcard leaves ----

pub not_bitnot : (op : UnaryOp) → OneOf (1 ∷ 2 ∷ 3 ∷ 4 ∷ []) (tag_of unary_type op) → is_bit_not (unary_means op) ≡ false
unfolding unary_means
not_bitnot U.BitNot t = absurd (⊎_elim (eqb-false 0 1 refl) (⊎_elim (eqb-false 0 2 refl) (⊎_elim (eqb-false 0 3 refl) (eqb-false 0 4 refl))) t)
not_bitnot U.LogicNot t = refl
not_bitnot U.ReduceOr t = refl
not_bitnot U.ReduceAnd t = refl
not_bitnot U.ReduceXor t = refl

pub is_bitnot : (op : UnaryOp) → op ≡ U.BitNot → is_bit_not (unary_means op) ≡ true
unfolding unary_means
is_bitnot op q = rw q

-- ---- all pieces ----

-- the bits copied before part v wide at bit at, and its own
bits_add : (lsb end at v m : ℕ) → m ≡ min end (at + v) → lsb ≤ end → min end at - lsb + (m - max lsb at) ≡ m - lsb
bits_add lsb end at v m e h = omega arith

last_first : (f : ℕ → ℕ) (b j : ℕ) (acc : List ℕ) → backwards (each f b (suc j)) acc ≡ f (b + j) ∷ backwards (each f b j) acc
unfolding each
last_first f b zero acc = let m : b ≡ b + 0 = omega arith in ap (λ (k : ℕ). f k ∷ acc) m
last_first f b (suc j) acc = let m : suc b + j ≡ b + suc j = omega arith in last_first f (suc b) j (f b ∷ acc) ∙ ap (λ (k : ℕ). f k ∷ backwards (each f b (suc j)) acc) m

module _ (xs : List R.Expr) (st : State) (lsb end at p : ℕ) (ps : List ℕ) where
  first_piece : piece_nets st (pieces xs lsb end at (p ∷ ps)) ≡ piece_nets st (piece p at (width_at xs p) lsb end) ++ piece_nets st (pieces xs lsb end (at + width_at xs p) ps)
  unfolding pieces
  first_piece = go (ltb (max lsb at) (min end (at + width_at xs p)))
    where
      go : (t : Bool) → piece_nets st (cond t (record { part = p; lsb = max lsb at - at; width = min end (at + width_at xs p) - max lsb at } ∷ pieces xs lsb end (at + width_at xs p) ps) (pieces xs lsb end (at + width_at xs p) ps))
          ≡ piece_nets st (cond t (record { part = p; lsb = max lsb at - at; width = min end (at + width_at xs p) - max lsb at } ∷ []) []) ++ piece_nets st (pieces xs lsb end (at + width_at xs p) ps)
      go true = ap (λ (ns : List ℕ). ns ++ piece_nets st (pieces xs lsb end (at + width_at xs p) ps)) (sym (append-nil (range_nets st p (max lsb at - at) (min end (at + width_at xs p) - max lsb at))))
      go false = refl

pub record PiecesAt (s w : List ℕ) (start n lsb k : ℕ) (xs₀ xs : List ℕ) (at to i : ℕ) : Type 0 where
  pub below : i ≤ n
  pub long : length xs ≡ length xs₀
  pub place : at + parts_width s start i ≡ parts_width s start n
  pub copied : to ≡ min (lsb + k) at - lsb
  pub nets : (l : Netlist) → take to xs ++ piece_nets (state_of s l w) (pieces (exprs_of s) lsb (lsb + k) at (backwards (each (λ j. list_word s (start + j)) 0 i) []))
      ≡ piece_nets (state_of s l w) (concat_pieces (exprs_of s) (parts_of s start n) lsb k)

module _ (s w : List ℕ) (start n lsb k : ℕ) (xs₀ : List ℕ) where
  pub pieces_begin : PiecesAt s w start n lsb k xs₀ xs₀ 0 0 n
  unfolding concat_pieces list_of
  pieces_begin = record { below = omega arith; long = refl; place = omega arith; copied = omega arith; nets = λ l. refl }

  module _ (xs : List ℕ) (at to i : ℕ) (some : 0 < i) (g : PiecesAt s w start n lsb k xs₀ xs at to i) where
    next_width : at + expr_width s (list_word s (start + (i - 1))) + parts_width s start (i - 1) ≡ parts_width s start n
    next_width =
        let e : i ≡ suc (i - 1) = omega arith in
        omega (arith, g.place, ap (parts_width s start) e, sum_suc (λ j. expr_width s (list_word s (start + j))) (i - 1))

    pub piece_room : lsb + k ≤ 1024 → to + (min (lsb + k) (at + expr_width s (list_word s (start + (i - 1)))) - max lsb at) ≤ k
    piece_room h = omega (arith, g.copied)

    pub piece_place : (at ≤ parts_width s start n) × (at + expr_width s (list_word s (start + (i - 1))) ≤ parts_width s start n)
    piece_place = (omega (arith, g.place), omega (arith, next_width))

    pub pieces_turn : (xs' : List ℕ) (r v : ℕ) → PartsIn s start n → length xs' ≡ length xs → v ≡ expr_width s (list_word s (start + (i - 1)))
        → CopiedPiece s w (list_word s (start + (i - 1))) at lsb (lsb + k) xs to r xs' → PiecesAt s w start n lsb k xs₀ xs' (at + v) (to + r) (i - 1)
    pieces_turn xs' r v q len ev c =
        let f : ℕ → ℕ = λ j. list_word s (start + j) in
        let p = list_word s (start + (i - 1)) in
        let e : i ≡ suc (i - 1) = omega arith in
        let wd : width_at (exprs_of s) p ≡ expr_width s p = expr_width_law s p (q.there (i - 1) (omega (arith, g.below))) in
        let rest = backwards (each f 0 (i - 1)) [] in
        record {
          below = omega (arith, g.below);
          long = len ∙ g.long;
          place = omega (arith, next_width);
          copied = ap (λ (j : ℕ). j + r) g.copied ∙ ap (λ (j : ℕ). min (lsb + k) at - lsb + j) c.width
              ∙ ap (λ (j : ℕ). min (lsb + k) at - lsb + (min (lsb + k) (at + j) - max lsb at)) (sym ev) ∙ bits_add lsb (lsb + k) at v (min (lsb + k) (at + v)) refl (omega arith);
          nets = λ l.
              let st = state_of s l w in
              let z : 0 + (i - 1) ≡ i - 1 = omega arith in
              let b : backwards (each f 0 i) [] ≡ p ∷ rest = ap (λ (j : ℕ). backwards (each f 0 j) []) e ∙ last_first f 0 (i - 1) [] ∙ ap (λ (j : ℕ). f j ∷ rest) z in
              let h : piece_nets st (pieces (exprs_of s) lsb (lsb + k) at (p ∷ rest))
              ≡ piece_nets st (piece p at (expr_width s p) lsb (lsb + k)) ++ piece_nets st (pieces (exprs_of s) lsb (lsb + k) (at + expr_width s p) rest) =
              rw wd at (first_piece (exprs_of s) st lsb (lsb + k) at p rest) in
              ap (λ (ns : List ℕ). ns ++ piece_nets st (pieces (exprs_of s) lsb (lsb + k) (at + v) rest)) (c.nets l)
              ∙ append_assoc (take to xs) (piece_nets st (piece p at (expr_width s p) lsb (lsb + k))) (piece_nets st (pieces (exprs_of s) lsb (lsb + k) (at + v) rest))
              ∙ ap (λ (j : ℕ). take to xs ++ (piece_nets st (piece p at (expr_width s p) lsb (lsb + k)) ++ piece_nets st (pieces (exprs_of s) lsb (lsb + k) (at + j) rest))) ev
              ∙ ap (λ (ns : List ℕ). take to xs ++ ns) (sym h)
              ∙ ap (λ (ps : List ℕ). take to xs ++ piece_nets st (pieces (exprs_of s) lsb (lsb + k) at ps)) (sym b)
              ∙ g.nets l;
        }

  pub pieces_end : (xs : List ℕ) (at to i : ℕ) → i ≤ 0 → lsb + k ≤ parts_width s start n → PiecesAt s w start n lsb k xs₀ xs at to i → (l : Netlist)
      → take k xs ≡ piece_nets (state_of s l w) (concat_pieces (exprs_of s) (parts_of s start n) lsb k)
  unfolding each sum_to pieces
  pieces_end xs at to i h fit g l =
      let z : i ≡ 0 = omega arith in
      let a : at ≡ parts_width s start n = omega (arith, g.place, ap (parts_width s start) z) in
      let t : k ≡ to = omega (arith, g.copied) in
      ap (λ (j : ℕ). take j xs) t ∙ sym (append-nil (take to xs))
      ∙ ap (λ (j : ℕ). take to xs ++ piece_nets (state_of s l w) (pieces (exprs_of s) lsb (lsb + k) at (backwards (each (λ m. list_word s (start + m)) 0 j) []))) (sym z)
      ∙ g.nets l
