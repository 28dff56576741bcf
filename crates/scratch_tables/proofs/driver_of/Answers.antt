-- `scratch_tables::driver_of` meets its contract: the word at the place in the column of drivers, taken apart. Assumes nothing.
use mathlib.Core.Path.{sym}
use native.Mathlib.Omega.{arith}
use Rattle.scratch_tables.proofs.Ways.{undriven_way, driven_way}
use Rattle.scratch_tables.proofs.driver_of.Goals as goal

pub returns-then-x-eq0 : goal.returns-then-x-eq0
returns-then-x-eq0 c =
    let at = c.signal_place in
    undriven_way c.args.image.now c.args.scr.now c.args.p c.args.b at.result c.requires.0 c.requires.1 c.requires.2 at.ensures c.if-x-eq0.true

pub overflow_sub-result : goal.overflow_sub-result
overflow_sub-result c =
    let at = c.signal_place in
    omega (arith, (driven_way c.args.image.now c.args.scr.now c.args.p c.args.b at.result c.requires.0 c.requires.1 c.requires.2 at.ensures c.if-x-eq0.false).0)

pub returns : goal.returns
returns c =
    let at = c.signal_place in
    sym (driven_way c.args.image.now c.args.scr.now c.args.p c.args.b at.result c.requires.0 c.requires.1 c.requires.2 at.ensures c.if-x-eq0.false).1
