-- `walk_perform::binary` meets its contract. Assumes nothing.
use mathlib.Core.Path.{sym}
use lib.Seq.{length-take-le}
use Rattle.op_makers.specs.Class.{class_of}
use Rattle.walk_perform.proofs.Laws.{back_class}
use Rattle.walk_perform.proofs.binary.Goals as goal

pub slice_bounds-lower_binary-end-2 : goal.slice_bounds-lower_binary-end-2
slice_bounds-lower_binary-end-2 c =
    sym (length-take-le c.args.j c.args.xs.now c.requires.3)

pub slice_bounds-lower_binary-end-3 : goal.slice_bounds-lower_binary-end-3
slice_bounds-lower_binary-end-3 c =
    sym (length-take-le c.args.k c.args.ys.now c.requires.4)

pub lower_binary-requires : goal.lower_binary-requires
lower_binary-requires c =
    rw (length-take-le c.args.j c.args.xs.now c.requires.3, length-take-le c.args.k c.args.ys.now c.requires.4) (c.requires.0, c.requires.1, c.requires.2, c.requires.5, c.requires.6)

pub returns : goal.returns
returns c =
    back_class _ _ _ c.args.xs.now _ _ _ _ c.args.j c.requires.1 c.requires.3 c.lower_binary.auto.xs (class_of c.args.op) c.lower_binary.ensures
