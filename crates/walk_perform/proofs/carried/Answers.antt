-- `walk_perform::carried` meets its contract. Assumes nothing.
use mathlib.Core.Path.{refl, sym, ◌∙◌}
use lib.Seq.{length-take-le}
use Rattle.walk_job_parts.proofs.Lent.{back_whole}
use Rattle.walk_perform.proofs.carried.Goals as goal

pub slice_bounds-arithmetic-end-2 : goal.slice_bounds-arithmetic-end-2
slice_bounds-arithmetic-end-2 c =
    sym (length-take-le c.args.k c.args.xs.now c.requires.3)

pub slice_bounds-arithmetic-end-3 : goal.slice_bounds-arithmetic-end-3
slice_bounds-arithmetic-end-3 c =
    sym (length-take-le c.args.k c.args.ys.now c.requires.4)

pub arithmetic-requires : goal.arithmetic-requires
arithmetic-requires c =
    rw (length-take-le c.args.k c.args.xs.now c.requires.3, length-take-le c.args.k c.args.ys.now c.requires.4) (c.requires.0, c.requires.1, refl, c.requires.2)

pub returns : goal.returns
returns c =
    back_whole _ _ _ _ _ _ _ c.args.k (c.arithmetic.auto.xs ∙ length-take-le c.args.k c.args.xs.now c.requires.3) c.arithmetic.ensures
