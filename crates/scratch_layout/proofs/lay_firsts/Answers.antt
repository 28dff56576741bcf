-- `scratch_layout::lay_firsts` meets its contract. Assumes nothing.
use Rattle.std.proofs.Common.{◌+◌, ◌*◌, ◌-◌, get_or, arith}
use Rattle.spec_tests.specs.Rules.{sum_to}
use Rattle.spec_rules.specs.Image.{count_at_of, signal_width}
use Rattle.scratch_view.specs.View.{limit_of, first_at}
use Rattle.scratch_view.specs.Laws.{signals_few}
use Rattle.scratch_layout.proofs.Ways.{stored_put_at}
use Rattle.scratch_layout.proofs.lay_firsts.Goals as goal

pub slice_bounds-lay_firsts-end : goal.slice_bounds-lay_firsts-end
slice_bounds-lay_firsts-end c = omega (arith, signals_few c.args.image.now c.requires.image, c.requires.long, c.requires.bits)

pub returns : goal.returns
returns c =
    let s = c.args.image.now in
    let w = c.args.scr.now in
    let at = 64 + 4 * get_or w 0 0 + 3 * get_or w 1 0 in
    stored_put_at at (first_at s (limit_of w) 0) (count_at_of s 0) (at + c.count-count.result - at) (sum_to (signal_width s)) w c.lay_firsts.new.firsts
    (omega (arith, signals_few s c.requires.image, c.requires.long, c.requires.bits)) (omega (arith, c.requires.bits)) (omega (arith, c.count-count.ensures)) c.lay_firsts.auto.firsts
    (λ i u. c.lay_firsts.ensures.1.first_of i u)
