-- The expressions that an image stands for, one by one, and what later code asks of an image: its expressions are well-formed, at most
-- 1,024 wide, and their list words lie within the list. Assumes nothing.
use Rattle.std.specs.Prelude.{◌≡◌, List, ℕ, ◌+◌, ◌≤◌, ◌<◌, length}
use Rattle.std.proofs.Math.Path.{sym, ap}
use Rattle.std.proofs.Common.{◌∙◌}
use Rattle.spec_rtl.specs.Rtl as R
use Rattle.spec_rtl.specs.Rtl.{Expr}
use Rattle.spec_rules.specs.Image as image
use Rattle.spec_model.specs.Ranges as model
use Rattle.image_records.specs.Expr.{expression_of, kind_means, expr_means, Decoded}
use Rattle.image_records.specs.declared.Expression.{Expression}
use Rattle.image_records.specs.declared.ExprKind.{ExprKind}
use Rattle.image_records.specs.declared.ExprKind.TheVariants.{Signal, Constant, Unary, Binary, Mux, Concat, Slice}
use Rattle.word_laws.specs.Widths.{Formed, BelowE, WidthOk}
use Rattle.scratch_view.specs.Rows.{length_list_of, at_list_of}

abbrev pub exprs_of : List ℕ → List Expr
exprs_of s = (image.decode s).exprs

pub length_exprs : (s : List ℕ) → length (exprs_of s) ≡ image.count_at_of s 1
unfolding image.decode
length_exprs s = length_list_of (image.count_at_of s 1) (image.expr_at s)

pub expr_at_law : (s : List ℕ) (e : ℕ) → e < image.count_at_of s 1 → model.expr_at (exprs_of s) e ≡ image.expr_at s e
unfolding image.decode
expr_at_law s e h = at_list_of (image.count_at_of s 1) (image.expr_at s) e (record { width = 0; kind = R.Constant 0 }) h

-- the list words of an expression of width w
abbrev pub Listed : ℕ → ExprKind → Type 0
Listed w (Constant start) = start + image.constant_words w ≤ 8192
Listed w (Concat start n) = start + n ≤ 8192
Listed w (Signal p lsb) = Unit {0}
Listed w (Unary op a) = Unit {0}
Listed w (Binary op a b) = Unit {0}
Listed w (Mux c t e) = Unit {0}
Listed w (Slice a lsb) = Unit {0}

pub record Readable (s : List ℕ) : Type 0 where
  pub formed : Formed (exprs_of s)
  pub most : (e : ℕ) → e < image.count_at_of s 1 → image.expr_width s e ≤ 1024
  pub listed : (e : ℕ) → e < image.count_at_of s 1 → Listed (image.expr_width s e) (expression_of s e).kind

-- ---- what an expression that was read tells ----

module _ (s : List ℕ) (g : Readable s) (e : ℕ) (h : e < image.count_at_of s 1) where
  pub in_exprs : e < length (exprs_of s)
  in_exprs = rw (length_exprs s) h

  pub width_at_law : model.width_at (exprs_of s) e ≡ image.expr_width s e
  unfolding image.expr_at
  width_at_law = ap (λ (x : Expr). x.width) (expr_at_law s e h)

  pub width_least : 1 ≤ image.expr_width s e
  width_least = rw (← width_at_law) (g.formed.least e in_exprs)

  module _ (x : Expression) (d : Decoded s e x) where
    pub width_read : x.width ≡ image.expr_width s e
    unfolding expr_means image.expr_at
    width_read = ap (λ (y : Expr). y.width) d.means

    pub kind_read : (model.expr_at (exprs_of s) e).kind ≡ kind_means s x.width x.kind
    unfolding expr_means
    kind_read = ap (λ (y : Expr). y.kind) (expr_at_law s e h ∙ sym d.means)

    pub low_read : BelowE e (kind_means s x.width x.kind)
    low_read = rw kind_read at (g.formed.low e in_exprs)

    pub wide_read : WidthOk (model.width_at (exprs_of s)) (image.expr_width s e) (kind_means s x.width x.kind)
    wide_read = rw (kind_read, width_at_law) at (g.formed.wide e in_exprs)

    pub listed_read : Listed (image.expr_width s e) x.kind
    listed_read = rw d.fields (g.listed e h)
