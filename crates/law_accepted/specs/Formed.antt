-- An accepted image is readable: its expressions are well-formed, at most 1,024 wide, and their list words lie within the list.
use Rattle.std.specs.Prelude.{ℕ, zero, suc, ◌+◌, ◌≤◌, ◌<◌, List, ◌≡◌, refl, length}
use Rattle.std.proofs.Math.Path.{sym, ap}
use Rattle.std.proofs.Common.{◌∙◌, arith, add-zero, add-suc, suc-add, zero-add}
use Rattle.spec_tests.specs.Rules.{each, list_of, sum_to}
use Rattle.spec_rtl.specs.Rtl as R
use Rattle.spec_rules.specs.Image as image
use Rattle.spec_model.specs.Ranges as model
use Rattle.image_fields.specs.Fields.{field_in}
use Rattle.image_records.specs.declared.ExprKind.{ExprKind}
use Rattle.image_records.specs.declared.ExprKind.TheVariants.{Signal, Constant, Unary, Binary, Mux, Concat, Slice}
use Rattle.image_records.specs.Expr.{kind_means, expr_means, expression_in, expression_of, expr_means_law}
use Rattle.word_laws.specs.Widths.{AllBelow, BelowE, sum_of, WidthOk}
use Rattle.expr_laws.specs.Exprs.{exprs_of, length_exprs, expr_at_law, Listed, Readable}
use Rattle.check_image.specs.Accepted.{Accepted}
use Rattle.law_accepted.specs.Fits.{kind_fits_of, expr_fits}

-- ---- lists of parts ----

each_below : (x : ℕ) (f : ℕ → ℕ) (i n : ℕ) → ((j : ℕ) → j < n → f (i + j) < x) → AllBelow x (each f i n)
unfolding each
each_below x f i zero h = tt
each_below x f i (suc n) h = (
  rw (add-zero i) at (h 0 (omega arith)),
  each_below x f (suc i) n (λ j l. rw (add-suc i j, ← suc-add i j) at (h (suc j) (omega arith))),
)

sum_front : (F : ℕ → ℕ) (n : ℕ) → sum_to F (suc n) ≡ sum_to (λ j. F (suc j)) n + F 0
unfolding sum_to
sum_front F zero = refl
sum_front F (suc n) = omega (arith, sum_front F n)

each_sum : (g : ℕ → ℕ) (F f : ℕ → ℕ) (i n : ℕ) → ((j : ℕ) → j < n → g (f (i + j)) ≡ F j) → sum_of g (each f i n) ≡ sum_to F n
unfolding each sum_to
each_sum g F f i zero h = refl
each_sum g F f i (suc n) h =
    let a = each_sum g (λ j. F (suc j)) f (suc i) n (λ j l. rw (add-suc i j, ← suc-add i j) at (h (suc j) (omega arith))) in
    let b : g (f i) ≡ F 0 = rw (add-zero i) at (h 0 (omega arith)) in
    let c = sum_front F n in
    omega arith

-- ---- a kind that fits ----

low : (s : List ℕ) (e w : ℕ) (k : ExprKind) → kind_fits_of s e w k → BelowE e (kind_means s w k)
unfolding kind_means list_of
low s e w (Signal p lsb) f = tt
low s e w (Constant start) f = tt
low s e w (Unary op a) f = f.0
low s e w (Binary op a b) f = (f.0, f.1)
low s e w (Mux c t d) f = (f.0, f.1, f.2)
low s e w (Concat start n) f = each_below e (λ i. image.list_word s (start + i)) 0 n (λ j l. rw (zero-add j) (f.2 j l))
low s e w (Slice a lsb) f = f.0

wide : (s : List ℕ) (e w : ℕ) (g : ℕ → ℕ) (k : ExprKind) → ((a : ℕ) → a < e → g a ≡ image.expr_width s a) → kind_fits_of s e w k → WidthOk g w (kind_means s w k)
unfolding kind_means list_of
wide s e w g (Signal p lsb) q f = tt
wide s e w g (Constant start) q f = tt
wide s e w g (Unary op a) q f = rw (q a f.0) f.1
wide s e w g (Binary op a b) q f = rw (q a f.0, q b f.1) f.2
wide s e w g (Mux c t d) q f = (q c f.0 ∙ f.3, q t f.1 ∙ f.4, q d f.2 ∙ f.5)
wide s e w g (Concat start n) q f =
    each_sum g (λ i. image.expr_width s (image.list_word s (start + i))) (λ i. image.list_word s (start + i)) 0 n
    (λ j l. rw (zero-add j) (q _ (f.2 j l))) ∙ f.3
wide s e w g (Slice a lsb) q f = rw (q a f.0) f.1

listed : (s : List ℕ) (e w : ℕ) (k : ExprKind) → image.count_at_of s 2 ≤ 8192 → kind_fits_of s e w k → Listed w k
listed s e w (Signal p lsb) h f = tt
listed s e w (Constant start) h f = omega arith
listed s e w (Unary op a) h f = tt
listed s e w (Binary op a b) h f = tt
listed s e w (Mux c t d) h f = tt
listed s e w (Concat start n) h f = omega (arith, f.1)
listed s e w (Slice a lsb) h f = tt

-- ---- the whole ----

read_width : (s : List ℕ) (e : ℕ) → (expression_of s e).width ≡ image.expr_width s e
unfolding expression_of expression_in field_in image.expr_width image.field
read_width s e = refl

module _ (s : List ℕ) (e : ℕ) (h : e < image.count_at_of s 1) where
  is_width : model.width_at (exprs_of s) e ≡ image.expr_width s e
  unfolding image.expr_at
  is_width = ap (λ (x : R.Expr). x.width) (expr_at_law s e h)

  is_kind : (model.expr_at (exprs_of s) e).kind ≡ kind_means s (image.expr_width s e) (expression_of s e).kind
  unfolding expr_means
  is_kind = rw (← read_width s e) (ap (λ (x : R.Expr). x.kind) (expr_at_law s e h ∙ sym (expr_means_law s e)))

  fits : Accepted s → kind_fits_of s e (image.expr_width s e) (expression_of s e).kind
  fits g = rw (← read_width s e) (expr_fits s e g h)

pub readable : (s : List ℕ) → Accepted s → Readable s
readable s g = record {
  formed = record {
    least = λ e h. rw (is_width s e (there e h)) (g.exprs e (there e h)).least;
    low = λ e h. rw (is_kind s e (there e h)) (low s e _ _ (fits s e (there e h) g));
    wide = λ e h. rw (is_kind s e (there e h), is_width s e (there e h))
        (wide s e _ (model.width_at (exprs_of s)) _ (λ a l. is_width s a (omega (arith, there e h))) (fits s e (there e h) g));
  };
  most = λ e h. (g.exprs e h).most;
  listed = λ e h. listed s e (image.expr_width s e) (expression_of s e).kind g.most.list (fits s e h g);
}
  where
    there : (e : ℕ) → e < length (exprs_of s) → e < image.count_at_of s 1
    there e h = rw (length_exprs s) at h
