-- The walk: each of its functions gives what the model says, for all fuel above the cost. Assumes nothing.
use Prim.Native.Nat.{◌+◌, ◌*◌, ◌-◌}
use Rattle.spec_model.specs.Lowering as M
use Rattle.walk_view.specs.View.{cost_of}
use Rattle.walk_recursion.specs.declared.Part.TheVariants as P
use Rattle.walk_recursion.specs.Walk.{cost_need, At}
use Rattle.walk_recursion.proofs.+walk.Given as goal

abbrev pub decreases-lower_bit : goal.decreases-lower_bit
decreases-lower_bit l = 3 * cost_of l.image.now l.scr.now (M.Bit l.p l.b) + 1

abbrev pub decreases-lower_expression : goal.decreases-lower_expression
decreases-lower_expression l = 3 * cost_of l.image.now l.scr.now (M.Whole l.e)

abbrev pub decreases-lower_expression_range : goal.decreases-lower_expression_range
decreases-lower_expression_range l = 3 * cost_of l.image.now l.scr.now (M.Range l.e l.lsb l.w)

abbrev pub decreases-lower_need : goal.decreases-lower_need
decreases-lower_need l = 3 * cost_need l.image.now l.scr.now l.need + 2

abbrev pub decreases-lower_whole : goal.decreases-lower_whole
decreases-lower_whole l = 3 * cost_of l.image.now l.scr.now (M.Whole l.e) + 1

abbrev pub decreases-resolve_signal_bit : goal.decreases-resolve_signal_bit
decreases-resolve_signal_bit l = 3 * cost_of l.image.now l.scr.now (M.Bit l.p l.b)

abbrev pub invariant-lower_expression-loop-left : goal.invariant-lower_expression-loop-left
invariant-lower_expression-loop-left l = At l.image l.initial.net l.initial.scr (P.Whole l.e) l.k 0 l.net l.scr

abbrev pub decreases-lower_expression-loop-left : goal.decreases-lower_expression-loop-left
decreases-lower_expression-loop-left l = 4294967295 - l.k

abbrev pub invariant-lower_expression_range-loop-left : goal.invariant-lower_expression_range-loop-left
invariant-lower_expression_range-loop-left l = At l.image l.initial.net l.initial.scr (P.Range l.e l.lsb l.w) l.k l.at l.net l.scr

abbrev pub decreases-lower_expression_range-loop-left : goal.decreases-lower_expression_range-loop-left
decreases-lower_expression_range-loop-left l = 4294967295 - l.k
