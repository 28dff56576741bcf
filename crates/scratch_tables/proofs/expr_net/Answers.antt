-- `scratch_tables::expr_net` meets its contract: the word at the place. Assumes nothing.
use Rattle.scratch_tables.proofs.Ways.{expr_net_way}
use Rattle.scratch_tables.proofs.expr_net.Goals as goal

pub returns : goal.returns
returns c =
    let at = c.expr_place-at in
    expr_net_way c.args.image.now c.args.scr.now c.args.e c.args.b at.result c.net_word.result c.requires.1 c.requires.2 at.ensures c.net_word.ensures
