-- `expr_ranges::fill_row` meets its contract. Assumes nothing.
use mathlib.Core.Path.{ap, ◌∙◌}
use native.Mathlib.Omega.{arith}
use Rattle.spec_model.specs.Ranges as model
use Rattle.expr_ranges.specs.Steps.{row_wide, row_small}
use Rattle.expr_ranges.specs.Table.{put_row}
use Rattle.expr_range_rows.specs.Rows.{shown, narrow_word}
use Rattle.expr_ranges.proofs.Words.{word_stored}
use Rattle.expr_ranges.proofs.fill_row.Goals as goal

pub returns-then-width-gt64 : goal.returns-then-width-gt64
returns-then-width-gt64 c = c.store_row.ensures ∙ ap (λ (r : model.Range). put_row c.args.table.now c.args.e r 0) c.point.ensures ∙ row_wide c.args.image.now c.args.table.now c.args.e c.requires (omega (arith, c.expr_width-width.ensures))

pub returns : goal.returns
returns c = c.store_row-2.ensures ∙ row_small c.args.image.now c.args.table.now c.args.e c.requires (shown c.expression_range-range.result) c.unwrap_or.result (omega (arith, c.expr_width-width.ensures)) c.expression_range-range.ensures
    (c.unwrap_or.ensures ∙ word_stored c.narrowed-needed.result ∙ ap narrow_word (rw c.expr_width-width.ensures at c.narrowed-needed.ensures))
