-- `walk_perform::unary` meets its contract. Assumes nothing.
use mathlib.Core.Path.{sym}
use lib.Seq.{length-take-le}
use Rattle.walk_perform.proofs.Laws.{back_unary}
use Rattle.walk_perform.proofs.unary.Goals as goal

pub slice_bounds-lower_unary-end-2 : goal.slice_bounds-lower_unary-end-2
slice_bounds-lower_unary-end-2 c =
    sym (length-take-le c.args.k c.args.xs.now c.requires.2)

pub lower_unary-requires : goal.lower_unary-requires
lower_unary-requires c =
    (c.requires.0, rw (length-take-le c.args.k c.args.xs.now c.requires.2) c.requires.1)

pub returns : goal.returns
returns c =
    back_unary _ _ _ c.args.xs.now _ _ _ _ c.args.k c.requires.1 c.requires.2 c.lower_unary.auto.xs c.args.op c.lower_unary.ensures
