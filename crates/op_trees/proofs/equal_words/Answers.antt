-- `op_trees::equal_words` meets its contract. Assumes nothing.
use mathlib.Core.Bool.{true}
use Rattle.std.proofs.lemmas.Result.{err_from_is_err_and}
use Rattle.spec_model.specs.Lowering.{equal_words}
use Rattle.op_bits.proofs.Laws.{first_out, first_then}
use Rattle.op_trees.proofs.equal_words.Goals as goal

pub returns-in_err-pairwise : goal.returns-in_err-pairwise
unfolding equal_words
returns-in_err-pairwise c =
    let p = err_from_is_err_and c.from_residual.result c.from_residual.ensures.1 in
    rw (p.1, p.2) (first_out _ _ _ _ _ _ _ _ c.in_err-pairwise.ensures)

pub returns : goal.returns
unfolding equal_words
returns c = first_then _ _ _ _ _ _ _ _ _ _ c.in_ok-pairwise.ensures (c.reduce_tree.ensures true)
