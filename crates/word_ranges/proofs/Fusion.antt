-- What is proved of specs/Fusion: What a Binary's operands give, fused or not, narrowed or not: the expression's word, for every valuation of the signals. Assumes nothing.
use Rattle.std.specs.Prelude.{◌≡◌, Bool, cond, List, ℕ, ◌^◌, ◌≤◌, ◌<◌, length, get_or, take}
use Rattle.std.proofs.Math.Path.{refl}
use Rattle.std.proofs.Common.{sym, ◌∙◌, arith}
use Rattle.std.proofs.Math.Bool.{true, false}
use Rattle.std.proofs.Math.Option.{Option, none, some}
use Rattle.spec_rtl.specs.Word.{value}
use Rattle.spec_rtl.specs.Ops.{add_w}
use Rattle.spec_rtl.specs.Rtl as R
use Rattle.spec_rtl.specs.Rtl.{Expr, Binary, Valuation, word, binary}
use Rattle.spec_model.specs.Ranges.{expr_at, width_at, class_of, adder_width}
use Rattle.spec_model.specs.Lowering.{is_add, add_operands, carry_lsb, Operands, fused, operands_of}
use Rattle.word_laws.specs.Add.{fuse, fuse_r}
use Rattle.word_laws.specs.Widths.{BelowE, WidthOk, Formed, word_is, word_width}
use Rattle.word_ranges.proofs.Sound.{narrow_fits}
use Rattle.word_ranges.specs.Carry.{carry_sound}
use Rattle.word_ranges.specs.Fusion.{cell_narrow, Narrowed, Operate, add_kind_law, add_only, carry_bit, cell_word, taken}

module _ (xs : List Expr) (f : Formed xs) (v : Valuation) where
  -- an inner Add: its operands stand below it and have its width
  pub record Inner (a : ℕ) (p : ℕ × ℕ) : Type 0 where
    pub left : p.0 < a
    pub right : p.1 < a
    pub left_wide : length (word xs v p.0) ≡ width_at xs a
    pub right_wide : length (word xs v p.1) ≡ width_at xs a
    pub sum : word xs v a ≡ add_w (word xs v p.0) (word xs v p.1)

  pub inner : (a : ℕ) (p : ℕ × ℕ) → a < length xs → add_operands xs a ≡ some p → Inner a p
  unfolding add_operands
  inner a p h q =
      let k = add_kind_law (expr_at xs a).kind p q in
      let b : BelowE a (R.Bin R.Add p.0 p.1) = rw k at (f.low a h) in
      let o : WidthOk (width_at xs) (width_at xs a) (R.Bin R.Add p.0 p.1) = rw k at (f.wide a h) in
      record {
        left = b.0;
        right = b.1;
        left_wide = word_width xs f v p.0 (omega (arith, b.0)) ∙ o.0;
        right_wide = word_width xs f v p.1 (omega (arith, b.1)) ∙ o.1;
        sum = word_is xs v a h (f.low a h) ∙ rw k;
      }

  module _ (e : ℕ) (h : e < length xs) (op : Binary) (a b : ℕ) (x : (expr_at xs e).kind ≡ R.Bin op a b) where
    below : BelowE e (R.Bin op a b)
    below = rw x at (f.low e h)

    plain : word xs v e ≡ binary op (word xs v a) (word xs v b)
    plain = word_is xs v e h (f.low e h) ∙ rw x

    -- the sum's sides have its width
    sides : op ≡ R.Add → (width_at xs a ≡ width_at xs e) × (width_at xs b ≡ width_at xs e)
    sides q = let o : WidthOk (width_at xs) (width_at xs e) (R.Bin R.Add a b) = rw (x, q) at (f.wide e h) in o

    plain_operate : Operate xs v e (width_at xs e) op (record { lhs = a; rhs = b; carry = none })
    plain_operate = record { lhs_below = below.0; rhs_below = below.1; carry_below = tt; lhs_wide = λ q. word_width xs f v a (omega (arith, below.0)) ∙ (sides q).0; rhs_wide = λ q. word_width xs f v b (omega (arith, below.1)) ∙ (sides q).1; gives = plain }

    left : (op ≡ R.Add) → (s : Option (ℕ × ℕ)) → add_operands xs a ≡ s → (c : Option ℕ) → carry_lsb xs b ≡ c → (o : Operands) → Operate xs v e (width_at xs e) op o
        → Operate xs v e (width_at xs e) op (fused s c o)
    left q none s c t o r = r
    left q (some p) s none t o r = r
    left q (some p) s (some c) t o r =
        let i = inner a p (omega (arith, below.0)) s in
        let k = carry_sound xs f v b c (omega (arith, below.1)) t in
        record {
          lhs_below = omega (arith, i.left, below.0);
          rhs_below = omega (arith, i.right, below.0);
          carry_below = omega (arith, k.1, below.1);
          lhs_wide = λ _. i.left_wide ∙ (sides q).0;
          rhs_wide = λ _. i.right_wide ∙ (sides q).0;
          gives = plain ∙ rw (q, i.sum) (fuse (word xs v p.0) (word xs v p.1) (word xs v b) (get_or (word xs v c) 0 false) k.0);
        }

    right : (op ≡ R.Add) → (s : Option (ℕ × ℕ)) → add_operands xs b ≡ s → (c : Option ℕ) → carry_lsb xs a ≡ c → (o : Operands) → Operate xs v e (width_at xs e) op o
        → Operate xs v e (width_at xs e) op (fused s c o)
    right q none s c t o r = r
    right q (some p) s none t o r = r
    right q (some p) s (some c) t o r =
        let i = inner b p (omega (arith, below.1)) s in
        let k = carry_sound xs f v a c (omega (arith, below.0)) t in
        let w = sides q in
        let l : length (word xs v a) ≡ length (word xs v p.0) = word_width xs f v a (omega (arith, below.0)) ∙ w.0 ∙ sym w.1 ∙ sym i.left_wide in
        record {
          lhs_below = omega (arith, i.left, below.1);
          rhs_below = omega (arith, i.right, below.1);
          carry_below = omega (arith, k.1, below.0);
          lhs_wide = λ _. i.left_wide ∙ w.1;
          rhs_wide = λ _. i.right_wide ∙ w.1;
          gives = plain ∙ rw (q, i.sum) (fuse_r (word xs v p.0) (word xs v p.1) (word xs v a) (get_or (word xs v c) 0 false) l k.0);
        }

    -- the operands that `lower_add_with_carry` takes give the expression's word
    pub operands : Operate xs v e (width_at xs e) op (operands_of xs op a b)
    unfolding operands_of
    operands = go (is_add (class_of op)) refl
      where
        go : (t : Bool) → is_add (class_of op) ≡ t
            → Operate xs v e (width_at xs e) op (cond t (fused (add_operands xs a) (carry_lsb xs b) (fused (add_operands xs b) (carry_lsb xs a) (record { lhs = a; rhs = b; carry = none })))
            (record { lhs = a; rhs = b; carry = none }))
        go true t =
            let q = add_only op (rw t tt) in
            left q (add_operands xs a) refl (carry_lsb xs b) refl _ (right q (add_operands xs b) refl (carry_lsb xs a) refl _ plain_operate)
        go false t = plain_operate

    -- narrowed, fused or not: both operands truncated to k bits, the carry kept
    pub narrowed : (k : ℕ) → op ≡ R.Add → adder_width xs e ≡ some k → (o : Operands) → Operate xs v e (width_at xs e) op o
        → Narrowed k (width_at xs e) (take k (word xs v o.lhs)) (take k (word xs v o.rhs)) (carry_bit (word xs v) o.carry) (word xs v e)
    narrowed k q n o r =
        let s = narrow_fits xs f v e k h n in
        let g : word xs v e ≡ cell_word R.Add (word xs v o.lhs) (word xs v o.rhs) (carry_bit (word xs v) o.carry) = r.gives ∙ rw q in
        rw g (cell_narrow k (width_at xs e) (word xs v o.lhs) (word xs v o.rhs) (carry_bit (word xs v) o.carry)
        (r.lhs_wide q) (r.rhs_wide q) (omega (arith, s.1)) (rw g at s.0))
