-- The bytes held stand at the front after the move, and what is read comes behind them.
use Rattle.std.proofs.Common.{◌-◌, refl, ◌∙◌, arith, length}
use borrow.Author.Rules.{rules}
use borrow.Rule.Slice.PartMut.{take_put}
use Rattle.trace.specs.Turn.{came}
use Rattle.trace.proofs.read_more.Goals as goal

pub returns : goal.returns
returns c =
    let n = c.args.h.end - c.args.h.from in
    let there = c.move_down.new.bytes in
    let kept = take_put n (length there - n) there c.read_some-more.new.bytes (omega arith) in
    (refl, omega arith, search rules, came _ n c.read_some-more.result (kept ∙ c.move_down.ensures.0))
