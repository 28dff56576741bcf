-- `walk_perform::mux` meets its contract. Assumes nothing.
use mathlib.Core.Path.{sym, ◌∙◌}
use lib.Seq.{length-take-le}
use Rattle.walk_job_parts.proofs.Lent.{back_whole}
use Rattle.walk_perform.proofs.mux.Goals as goal

pub slice_bounds-mux_bits-end-2 : goal.slice_bounds-mux_bits-end-2
slice_bounds-mux_bits-end-2 c =
    sym (length-take-le c.args.w c.args.xs.now c.requires.1)

pub slice_bounds-mux_bits-end-3 : goal.slice_bounds-mux_bits-end-3
slice_bounds-mux_bits-end-3 c =
    sym (length-take-le c.args.w c.args.ys.now c.requires.2)

pub mux_bits-requires : goal.mux_bits-requires
mux_bits-requires c =
    (c.requires.0, length-take-le c.args.w c.args.xs.now c.requires.1 ∙ sym (length-take-le c.args.w c.args.ys.now c.requires.2), c.requires.3)

pub returns : goal.returns
returns c =
    back_whole _ _ _ _ _ _ _ c.args.w (c.mux_bits.auto.then_bits ∙ length-take-le c.args.w c.args.xs.now c.requires.1) c.mux_bits.ensures
