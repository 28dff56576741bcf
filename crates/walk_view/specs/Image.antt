-- An accepted image's expressions by number: their widths in the model, and what their kinds tell. Assumes nothing.
use Rattle.std.specs.Prelude.{◌≡◌, refl, List, ℕ, zero, suc, ◌+◌, ◌≤◌, ◌<◌}
use Rattle.std.proofs.Math.Path.{sym, ap}
use Rattle.std.proofs.Common.{◌∙◌, arith}
use Rattle.spec_tests.specs.Rules.{each}
use Rattle.spec_rtl.specs.Rtl.{Expr}
use Rattle.spec_rules.specs.Image.{count_at_of, field, expr_width}
use Rattle.spec_model.specs.Ranges as model
use Rattle.image_fields.specs.Fields.{field_in}
use Rattle.image_records.specs.Expr.{expr_means, expression_in, expression_of, expr_means_law}
use Rattle.check_image.specs.Accepted.{Accepted}
use Rattle.law_accepted.specs.Fits.{kind_fits_of, expr_fits}
use Rattle.word_laws.specs.Widths.{AllBelow}
use Rattle.expr_laws.specs.Exprs.{exprs_of, expr_at_law}

pub below_each : (x : ℕ) (f : ℕ → ℕ) (i n : ℕ) → ((j : ℕ) → i ≤ j → j < i + n → f j < x) → AllBelow x (each f i n)
unfolding each
below_each x f i zero h = tt
below_each x f i (suc n) h = (h i (omega arith) (omega arith), below_each x f (suc i) n (λ j l u. h j (omega arith) (omega arith)))

pub width_is : (s : List ℕ) (e : ℕ) → (expression_of s e).width ≡ expr_width s e
unfolding expression_of expression_in field_in field expr_width
width_is s e = refl

module _ (s : List ℕ) (e : ℕ) (h : e < count_at_of s 1) where
  pub width_at_law : model.width_at (exprs_of s) e ≡ expr_width s e
  unfolding expr_means
  width_at_law = ap (λ (y : Expr). y.width) (expr_at_law s e h ∙ sym (expr_means_law s e)) ∙ width_is s e

-- what an expression's kind tells, over its width
pub fits : (s : List ℕ) (e : ℕ) → Accepted s → e < count_at_of s 1 → kind_fits_of s e (expr_width s e) (expression_of s e).kind
fits s e a h = rw (width_is s e) at (expr_fits s e a h)
