-- `lower::prepare` meets its contract. Assumes nothing.
use mathlib.Core.Path.{refl}
use Rattle.law_accepted.specs.Sized.{sized}
use Rattle.law_accepted.specs.Formed.{readable}
use Rattle.lower.proofs.Start.{rows_fit, prepared}
use Rattle.lower.proofs.prepare.Goals as goal

pub lay-requires : goal.lay-requires
lay-requires c = let p = c.requires in (sized c.args.image.now p.accepted, p.nets, p.long)

pub adder_widths-requires : goal.adder_widths-requires
adder_widths-requires c =
    let a = c.args in
    let l = c.lay in
    (readable a.image.now c.requires.accepted, rows_fit a.image.now a.n l.new.scr l.ensures _ refl)

pub returns : goal.returns
returns c =
    let a = c.args in
    let l = c.lay in
    let x = c.adder_widths in
    let y = c.start in
    prepared a.image.now a.n l.new.scr l.ensures _ refl c.requires.accepted _ y.new.net y.ensures x.new.table x.ensures
