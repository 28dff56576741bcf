-- `scratch_tables::signal_place` meets its contract: the place from the fixed words and the first bit of the signal. Assumes nothing.
use native.Mathlib.Omega.{arith}
use Rattle.scratch_view.specs.Laws.{signals_few, signal_ends}
use Rattle.scratch_tables.proofs.Ways.{first_word}
use Rattle.scratch_tables.proofs.signal_place.Goals as goal

pub bounds-scr-column : goal.bounds-scr-column
bounds-scr-column c =
    omega (arith, signals_few c.args.image.now c.requires.0.image)

pub returns : goal.returns
returns c =
    let f = first_word c.args.image.now c.args.scr.now c.requires.0 c.args.p c.requires.1 in
    record { at = omega arith; ends = signal_ends c.args.image.now c.args.p c.requires.1 }
