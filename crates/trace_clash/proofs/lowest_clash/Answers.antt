-- `trace_clash::lowest_clash` meets its contract. Assumes nothing.
use mathlib.Core.Path.{refl, ◌∙◌}
use native.Mathlib.Omega.{arith}
use Rattle.trace_clash.specs.Words.{lowest_none, lowest_more, clash_or}
use Rattle.trace_clash.proofs.lowest_clash.Goals as goal

pub loop-place-init : goal.loop-place-init
loop-place-init c = (omega arith, lowest_none c.args.net.now c.args.old.now c.args.new.now c.args.places.now)

pub loop-place-preserved : goal.loop-place-preserved
loop-place-preserved c = (omega (arith, c.min-lowest.ensures, c.loop-place.invariant.0), lowest_more c.args.net.now c.args.places.now c.loop-place.place-index refl c.part-r.ensures c.args.old.now c.args.new.now c.loop-place.invariant.1 (clash_or c.clash_number.result c.unwrap_or.ensures ∙ c.clash_number.ensures) c.min-lowest.ensures)
