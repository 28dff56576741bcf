-- `walk_build::build_range` meets its contract. Assumes nothing.
use native.Mathlib.Omega.{arith}
use Rattle.walk_build.proofs.build_range.Goals as goal

pub range_sized-requires-2 : goal.range_sized-requires-2
range_sized-requires-2 c =
    (c.requires.0, c.requires.1, c.requires.2, c.requires.3, c.requires.4, c.requires.5, omega (arith, c.requires.4, c.requires.0.laid.image.expr_most c.args.e c.requires.2), omega arith)
