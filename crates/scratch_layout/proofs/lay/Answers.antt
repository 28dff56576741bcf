-- `scratch_layout::lay` meets its contract: the steps one after the other. Assumes nothing.
use Rattle.scratch_layout.proofs.Ways.{firsts_own, after_firsts, after_starts, column_zero, ready_way}
use Rattle.scratch_layout.proofs.lay.Goals as goal

pub index_assignments-requires : goal.index_assignments-requires
index_assignments-requires c =
    let a = c.args in
    let f = c.lay_fixed in
    let g = c.lay_firsts in
    let h = c.lay_starts in
    let l = after_starts a.image.now a.n a.ob g.new.scr h.new.scr (after_firsts a.image.now a.n a.ob f.new.scr g.new.scr f.ensures g.ensures) h.ensures in
    (firsts_own a.image.now a.n h.new.scr l.0.firsts, column_zero a.image.now a.n a.ob h.new.scr l.0)

pub returns : goal.returns
returns c =
    let a = c.args in
    let f = c.lay_fixed in
    let g = c.lay_firsts in
    let h = c.lay_starts in
    let x = c.index_assignments in
    let l = after_starts a.image.now a.n a.ob g.new.scr h.new.scr (after_firsts a.image.now a.n a.ob f.new.scr g.new.scr f.ensures g.ensures) h.ensures in
    ready_way a.image.now a.n a.ob g.new.scr h.new.scr x.new.scr l.0 l.1 x.ensures
