-- `trace_walk::places` meets its contract. Assumes nothing.
use mathlib.Core.Path.{refl, sym, ◌∙◌}
use native.Mathlib.Omega.{arith}
use Rattle.trace_walk.specs.Walking.{start, met_inside, met_next, end as whole, near, places_few}
use Rattle.trace_walk.specs.Places.{places_cut}
use Rattle.std.proofs.Common.{◌≤◌, length, length-take-le}
use Rattle.trace_walk.proofs.places.Goals as goal

pub loop-p-init : goal.loop-p-init
loop-p-init c = (refl, start _ _ _)

pub overflow_add-list-in-loop-p : goal.overflow_add-list-in-loop-p
overflow_add-list-in-loop-p c = omega (arith, near _ c.requires.0, c.word_at-list.ensures, c.word_at-end.ensures)

pub overflow_add-p : goal.overflow_add-p
overflow_add-p c = omega (arith, met_inside _ c.requires.0 c.loop-p.invariant.1 c.word_at-list.ensures c.word_at-end.ensures c.loop-p-test.true c.stretch-l.ensures c.record_length-p.ensures, near _ c.requires.0, c.word_at-end.ensures)

pub loop-p-smaller : goal.loop-p-smaller
loop-p-smaller c = omega (arith, met_inside _ c.requires.0 c.loop-p.invariant.1 c.word_at-list.ensures c.word_at-end.ensures c.loop-p-test.true c.stretch-l.ensures c.record_length-p.ensures)

pub loop-p-preserved : goal.loop-p-preserved
loop-p-preserved c = (c.loop-p.invariant.0 ∙ sym c.keep-n.auto.out, met_next _ c.requires.0 c.loop-p.invariant.1 c.word_at-list.ensures c.word_at-end.ensures c.loop-p-test.true c.stretch-l.ensures c.record_length-p.ensures (omega (arith, c.loop-p.invariant.1.few, c.loop-p.invariant.0, c.requires.1, c.word_at-end.ensures)) c.keep-n.ensures)

pub slice_bounds-result-end : goal.slice_bounds-result-end
slice_bounds-result-end c =
    let n = places_few _ c.requires.0 c.loop-p.invariant.1 in
    sym (length-take-le _ _ (omega (arith, c.loop-p.invariant.0, c.requires.1, n)))

pub returns : goal.returns
returns c =
    let w = c.loop-p.invariant.1 in
    let n = places_few _ c.requires.0 w in
    let m : c.loop-p.n ≤ length c.loop-p.out = omega (arith, c.loop-p.invariant.0, c.requires.1, n) in
    record { places = places_cut m (whole _ c.requires.0 w (omega (arith, c.word_at-end.ensures))); few = omega (arith, length-take-le _ _ m, n) }
