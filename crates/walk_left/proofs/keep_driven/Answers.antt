-- `walk_left::keep_driven` meets its contract. Assumes nothing.
use Rattle.walk_left.proofs.Keeps.{net_small}
use Rattle.walk_left.proofs.keep_driven.Goals as goal

pub keep_signal-requires : goal.keep_signal-requires
keep_signal-requires c =
    let a = c.args in
    let pre = c.requires in
    (pre.0, pre.1, pre.2, net_small a.image.now a.scr.now a.e a.o _ pre.0 pre.3 pre.4 (pre.5 c.in_ok-x.was) c.expr_net-n.ensures)
