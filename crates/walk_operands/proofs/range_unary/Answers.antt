-- `walk_operands::range_unary` meets its contract. Assumes nothing.
use native.Mathlib.Omega.{arith}
use Rattle.walk_operands.proofs.RangeWays.{not_read, not_other, not_bitnot, is_bitnot}
use borrow.Enum.Refused.{opened}
use Rattle.walk_operands.proofs.range_unary.Goals as goal

pub copy_range-requires : goal.copy_range-requires
copy_range-requires c =
    let u = c.requires.2 (is_bitnot _ c.in-BitNot.is) in
    (c.requires.0, u.there, u.inside, omega (arith, c.requires.4))

pub copy_range-requires-in_default : goal.copy_range-requires-in_default
copy_range-requires-in_default c = (c.requires.0, c.requires.1.there, c.requires.1.inside, omega (arith, c.requires.4))

pub returns-in-BitNot : goal.returns-in-BitNot
returns-in-BitNot c = λ ys. not_read _ c.args.scr.now _ _ _ _ _ _ _ ys c.in-BitNot.is (c.requires.2 (is_bitnot _ c.in-BitNot.is)) c.requires.3 c.requires.4 c.copy_range.ensures

pub returns-in_default : goal.returns-in_default
returns-in_default c = λ ys. not_other _ c.args.scr.now _ _ _ _ _ _ _ ys (not_bitnot c.args.op (opened c.in_default.in_default-own.keys2)) c.requires.1 c.requires.3 c.requires.4 c.copy_range-in_default.ensures
