-- `walk_operands::range_mux` meets its contract. Assumes nothing.
use native.Mathlib.Omega.{arith}
use Rattle.walk_operands.proofs.RangeWays.{mux_read}
use Rattle.walk_operands.proofs.range_mux.Goals as goal

pub expr_net-k-requires : goal.expr_net-k-requires
expr_net-k-requires c = (c.requires.0, c.requires.1.there, c.requires.0.image.expr_some _ c.requires.1.there)

pub copy_range-requires : goal.copy_range-requires
copy_range-requires c = (c.requires.0, c.requires.2.there, c.requires.2.inside, omega (arith, c.requires.5))

pub copy_range-requires-2 : goal.copy_range-requires-2
copy_range-requires-2 c = (c.requires.0, c.requires.3.there, c.requires.3.inside, omega (arith, c.requires.5, c.requires.6))

pub returns : goal.returns
returns c = mux_read _ c.args.scr.now _ _ _ _ _ _ _ _ _ _ c.requires.2 c.requires.3 c.requires.4 c.requires.5 (λ l. c.expr_net-k.ensures.whole l c.requires.1.whole) c.copy_range.ensures c.copy_range-2.ensures
