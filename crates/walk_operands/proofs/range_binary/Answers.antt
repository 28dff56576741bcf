-- `walk_operands::range_binary` meets its contract. Assumes nothing.
use native.Mathlib.Omega.{arith}
use mathlib.Core.Path.{sym, ◌∙◌}
use Rattle.walk_operands.proofs.RangeWays.{gate_read, gate_other}
use Rattle.walk_operands.proofs.range_binary.Goals as goal

pub copy_range-requires : goal.copy_range-requires
copy_range-requires c =
    let u = c.requires.2 (sym c.is_bitwise.ensures ∙ c.if-is_bitwise.true) in
    (c.requires.0, u.there, u.inside, omega (arith, c.requires.5))

pub copy_range-requires-then-is_bitwise : goal.copy_range-requires-then-is_bitwise
copy_range-requires-then-is_bitwise c =
    let u = c.requires.3 (sym c.is_bitwise.ensures ∙ c.if-is_bitwise.true) in
    (c.requires.0, u.there, u.inside, omega (arith, c.requires.5, c.requires.6))

pub returns-then-is_bitwise : goal.returns-then-is_bitwise
returns-then-is_bitwise c =
    let q = sym c.is_bitwise.ensures ∙ c.if-is_bitwise.true in
    gate_read _ c.args.scr.now _ _ _ _ _ _ c.requires.4 _ c.requires.5 _ _ _ _ q (c.requires.2 q) (c.requires.3 q) c.copy_range.ensures c.copy_range-then-is_bitwise.ensures

pub copy_range-requires-2 : goal.copy_range-requires-2
copy_range-requires-2 c = (c.requires.0, c.requires.1.there, c.requires.1.inside, omega (arith, c.requires.5))

pub returns : goal.returns
returns c = gate_other _ c.args.scr.now _ _ _ _ _ _ c.requires.4 _ c.requires.5 _ _ _ (sym c.is_bitwise.ensures ∙ c.if-is_bitwise.false) c.requires.1 c.copy_range-2.ensures
