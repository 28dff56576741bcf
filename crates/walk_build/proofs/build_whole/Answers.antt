-- `walk_build::build_whole` meets its contract. Assumes nothing.
use native.Mathlib.Omega.{arith}
use Rattle.law_accepted.specs.Formed.{readable}
use Rattle.walk_operands.proofs.WholeWays.{room_all}
use Rattle.walk_build.proofs.build_whole.Goals as goal

pub is_narrow-requires : goal.is_narrow-requires
is_narrow-requires c =
    (readable c.args.image.now c.requires.0.accepted, c.requires.2)

pub whole_sized-requires : goal.whole_sized-requires
whole_sized-requires c =
    (c.requires.0, c.requires.1, c.requires.2, c.requires.3, c.is_narrow.ensures c.if-is_narrow.true, omega arith)

pub whole_sized-requires-2 : goal.whole_sized-requires-2
whole_sized-requires-2 c =
    (c.requires.0, c.requires.1, c.requires.2, c.requires.3, room_all c.args.image.now (readable c.args.image.now c.requires.0.accepted) c.args.e c.requires.2, omega arith)
