-- `walk_operands::is_narrow` meets its contract. Assumes nothing.
use borrow.Author.Tests.{leb-true}
use mathlib.Core.Bool.{true≢false}
use mathlib.Core.Path.{sym}
use Rattle.walk_operands.proofs.WholeWays.{room_unary, room_binary, room_other}
use borrow.Enum.Refused.{opened}
use Rattle.walk_operands.proofs.is_narrow.Goals as goal

pub returns-then-width-gt64 : goal.returns-then-width-gt64
returns-then-width-gt64 c = λ e. absurd (true≢false (sym e))

pub returns-in-Unary : goal.returns-in-Unary
returns-in-Unary c =
    λ e. room_unary _ c.requires.0 _ c.requires.1 _ c.expression_at-width.ensures 64 c.if-width-gt64.false _ _ c.in-Unary.is
    (rw c.expr_width.ensures at (leb-true c.expr_width.result 64 e))

pub returns-then-expr_width-le64 : goal.returns-then-expr_width-le64
returns-then-expr_width-le64 c =
    λ e. room_binary _ c.requires.0 _ c.requires.1 _ c.expression_at-width.ensures 64 c.if-width-gt64.false _ _ _ c.in-Binary.is
    (rw c.expr_width-in-Binary.ensures at c.if-expr_width-le64.true) (rw c.expr_width-then-expr_width-le64.ensures at (leb-true c.expr_width-then-expr_width-le64.result 64 e))

pub returns-in_default : goal.returns-in_default
returns-in_default c =
    λ e. room_other _ c.requires.0 _ c.requires.1 _ c.expression_at-width.ensures 64 c.if-width-gt64.false (opened c.in_default.in_default-own.keys3)
