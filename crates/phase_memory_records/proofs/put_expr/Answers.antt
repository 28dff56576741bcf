-- `phase_memory_records::put_expr` meets its contract. Assumes nothing.
use mathlib.Core.Path.{refl}
use Rattle.phase_memory_records.proofs.Laws.{expr_put}
use Rattle.phase_memory_records.proofs.put_expr.Goals as goal

pub returns : goal.returns
returns c =
    let pre = c.requires in
    let a = c.args in
    (c.expr_width-n.ensures, λ l. expr_put a.image.now a.scr.now l a.e pre.0 pre.1 pre.2 _ _ _ _ c.expr_width-n.ensures pre.3 refl (c.copy_range.ensures l))
