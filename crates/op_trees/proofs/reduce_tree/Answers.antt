-- `op_trees::reduce_tree` meets its contract. Assumes nothing.
use mathlib.Core.Path.{◌∙◌}
use lib.Seq.{length-take-le}
use Rattle.std.proofs.lemmas.Result.{err_from_is_err_and}
use Rattle.op_bits.proofs.Laws.{list_by}
use Rattle.op_trees.proofs.Laws.{tree_levels, reducing_start, reducing_more, reducing_out, reducing_end}
use Rattle.op_trees.proofs.reduce_tree.Goals as goal

pub loop-len-init : goal.loop-len-init
loop-len-init c = reducing_start _ _ _ _ _ c.requires.1 c.requires.0

pub returns-in_err-level : goal.returns-in_err-level
returns-in_err-level c = λ identity.
    let p = err_from_is_err_and c.from_residual.result c.from_residual.ensures.1 in
    rw (p.1, p.2) (list_by _ _ _ _ _ _ _ (tree_levels _ identity _ _ c.requires.1) (reducing_out _ _ _ _ _ _ _ _ _ c.loop-len.invariant _ _ _ _ _ c.loop-len-test.true c.in_err-level.ensures))

pub loop-len-preserved : goal.loop-len-preserved
loop-len-preserved c =
    let loop = c.loop-len in
    let e = length-take-le loop.len loop.xs loop.invariant.within in
    reducing_more _ _ _ _ _ _ _ _ _ loop.invariant _ _ _ c.loop-len-test.true c.level.auto.net (c.level.auto.xs ∙ e) (rw e at c.in_ok-level.ensures)

pub returns : goal.returns
returns c =
    λ identity. list_by _ _ _ _ _ _ _ (tree_levels _ identity _ _ c.requires.1) (reducing_end _ _ _ _ _ _ _ _ _ c.loop-len.invariant c.loop-len-test.false)
