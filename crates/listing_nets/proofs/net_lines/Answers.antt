-- `listing_nets::net_lines` meets its contract. Assumes nothing.
use Rattle.listing_nets.specs.Pieces.{lines_start, lines_more, lines_end}
use Rattle.listing_nets.proofs.net_lines.Goals as goal

pub loop-n-init : goal.loop-n-init
loop-n-init c = lines_start _ _ _ _ c.requires

pub loop-n-preserved : goal.loop-n-preserved
loop-n-preserved c = lines_more _ _ c.loop-n-test.true c.loop-n.invariant c.net_line-to.ensures

pub returns : goal.returns
returns c = rw c.word_at-count.ensures at (lines_end _ _ c.loop-n-test.false c.loop-n.invariant)
