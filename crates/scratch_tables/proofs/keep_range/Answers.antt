-- `scratch_tables::keep_range` meets its contract: nothing where the expression is whole, else the filled part is put back. Assumes nothing.
use mathlib.Core.Path.{sym, ◌∙◌}
use Rattle.scratch_view.specs.Laws.{skip_range}
use Rattle.scratch_tables.proofs.Ways.{keep_range_way}
use Rattle.scratch_tables.proofs.keep_range.Goals as goal

pub returns-then-is_whole : goal.returns-then-is_whole
returns-then-is_whole c =
    let a = c.args in
    skip_range a.image.now a.scr.now a.nets.now a.e a.lsb c.requires.0 c.requires.1 (sym c.is_whole.ensures ∙ c.if-is_whole.true)

pub returns : goal.returns
returns c =
    let a = c.args in
    let at = c.expr_place-at in
    let f = c.fill in
    keep_range_way a.image.now a.scr.now a.nets.now f.new.part c.requires.0 c.requires.3 a.e a.lsb at.result c.requires.1 c.requires.2
    (sym c.is_whole.ensures ∙ c.if-is_whole.false) at.ensures f.ensures
