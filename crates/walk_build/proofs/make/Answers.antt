-- `walk_build::make` meets its contract. Assumes nothing.
use Rattle.walk_build.proofs.Ways.{lent, make_way}
use Rattle.walk_build.proofs.make.Goals as goal

pub perform-requires : goal.perform-requires
perform-requires c =
    (lent c.args.image.now c.args.net.now c.args.scr.now c.requires.0, c.requires.1, c.requires.2, c.requires.3, c.requires.4)

pub returns : goal.returns
returns c =
    make_way _ c.args.image.now c.args.net.now c.args.scr.now _ _ _ _ c.requires.0 c.perform.auto.net c.perform.ensures
