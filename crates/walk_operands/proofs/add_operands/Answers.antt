-- `walk_operands::add_operands` meets its contract. Assumes nothing.
use native.Mathlib.Omega.{arith}
use mathlib.Core.Path.{ap}
use Rattle.spec_tests.specs.Options.{option_of}
use Rattle.walk_operands.proofs.Ways.{carried_by, lhs_in, rhs_in, lhs_wide, rhs_wide, sides_in, carry_in, carry_net, plain_read, carried_read, narrow_word_law}
use Rattle.walk_operands.proofs.add_operands.Goals as goal

pub add_with_carry-operands-requires : goal.add_with_carry-operands-requires
add_with_carry-operands-requires c =
    let i = c.requires.0 in
    record { readable = i.readable; left = (sides_in _ _ _ _ _ i).0; right = (sides_in _ _ _ _ _ i).1 }

pub copy_whole-j-requires : goal.copy_whole-j-requires
copy_whole-j-requires c =
    let i = c.requires.0 in
    let q = c.add_with_carry-operands.ensures in
    (i.laid, lhs_in _ _ _ _ _ i _ _ _ q, omega (arith, lhs_wide _ _ _ _ _ i _ _ _ q, c.requires.1))

pub copy_whole-requires : goal.copy_whole-requires
copy_whole-requires c =
    let i = c.requires.0 in
    let q = c.add_with_carry-operands.ensures in
    (i.laid, rhs_in _ _ _ _ _ i _ _ _ q, omega (arith, rhs_wide _ _ _ _ _ i _ _ _ q, c.requires.1, c.requires.2))

pub expr_net-requires : goal.expr_net-requires
expr_net-requires c =
    let i = c.requires.0 in
    let h = carry_in _ _ _ _ _ i _ _ _ (carried_by _ _ _ _ _ (ap option_of c.in-Some.is) c.add_with_carry-operands.ensures) in
    (i.laid, h.there, i.laid.image.expr_some _ h.there)

pub returns-in-Some : goal.returns-in-Some
returns-in-Some c =
    let i = c.requires.0 in
    let h = carry_in _ _ _ _ _ i _ _ _ (carried_by _ _ _ _ _ (ap option_of c.in-Some.is) c.add_with_carry-operands.ensures) in
    carried_read _ _ _ _ _ i _ _ _ c.add_with_carry-operands.ensures _ _ _ _ _ _ _ _ (narrow_word_law _ _ _ _ _ i) c.copy_whole-j.ensures c.copy_whole.ensures c.cut-k.ensures _ c.requires.1
    _ _ (ap option_of c.in-Some.is) (λ l. c.expr_net.ensures.whole l h.whole) (carry_net _ _ _ _ _ i _ _ h (λ l. c.expr_net.ensures.whole l h.whole))

pub returns-in-None : goal.returns-in-None
returns-in-None c =
    let i = c.requires.0 in
    plain_read _ _ _ _ _ i _ _ _ c.add_with_carry-operands.ensures _ _ _ _ _ _ _ _ (narrow_word_law _ _ _ _ _ i) c.copy_whole-j.ensures c.copy_whole.ensures c.cut-k.ensures _ c.requires.1
    (ap option_of c.in-None.is)
