-- `expr_fusion::carry_lsb` meets its contract. Assumes nothing.
use mathlib.Core.Path.{sym, ◌∙◌}
use Rattle.expr_fusion.specs.Fusion.{carry_bit_law, carry_kind_law}
use Rattle.expr_fusion.proofs.carry_lsb.Goals as goal

pub returns-then-expr_width-eq1 : goal.returns-then-expr_width-eq1
returns-then-expr_width-eq1 c = carry_bit_law c.args.image.now c.args.e c.requires (sym c.expr_width.ensures ∙ c.if-expr_width-eq1.true)

pub returns : goal.returns
returns c = c.carry_kind.ensures ∙ carry_kind_law c.args.image.now c.args.e c.requires (λ w. c.if-expr_width-eq1.false (c.expr_width.ensures ∙ w))
