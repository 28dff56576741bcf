-- `scratch_tables::range_known` meets its contract: the flag, or the words of the range. Assumes nothing.
use mathlib.Core.Path.{sym, ◌∙◌}
use Rattle.scratch_view.specs.View.{limit_of}
use Rattle.scratch_view.specs.Reads.{known_whole}
use Rattle.scratch_tables.proofs.Ways.{known_range_way}
use Rattle.scratch_tables.proofs.range_known.Goals as goal

pub returns-then-is_whole : goal.returns-then-is_whole
returns-then-is_whole c = λ l.
    let a = c.args in
    sym (known_whole a.image.now (limit_of a.scr.now) l a.scr.now a.e c.requires.1 a.lsb a.n (sym c.is_whole.ensures ∙ c.if-is_whole.true))

pub returns : goal.returns
returns c =
    let a = c.args in
    let at = c.expr_place-at in
    known_range_way a.image.now a.scr.now a.e a.lsb a.n at.result c.all_known.result c.requires.1 c.requires.2 (sym c.is_whole.ensures ∙ c.if-is_whole.false) at.ensures
    c.all_known.ensures
