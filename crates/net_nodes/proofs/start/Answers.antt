-- `net_nodes::start` meets its contract. Assumes nothing.
use Rattle.net_view.specs.Laws.{started}
use Rattle.net_nodes.proofs.start.Goals as goal

pub returns : goal.returns
returns c =
    let a = c.args in
    let w = a.net.now in
    rw c.clear.ensures (started a.n w c.requires.0 c.requires.1 c.requires.2 c.requires.3)
