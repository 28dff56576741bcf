-- `trace_plan::make_plan` meets its contract. Assumes nothing.
use Prim.Native.Nat.{◌≤◌}
use mathlib.Core.Path.{◌≡◌}
use lib.ListN.{length}
use Rattle.trace_pass.specs.Coded.{words_of}
use Rattle.trace_plan.specs.Building.{Building}
use Rattle.trace_plan.proofs.make_plan.Given as goal

abbrev pub invariant-loop-k : goal.invariant-loop-k
invariant-loop-k l = (length l.initial.due ≡ length l.due) × ((length l.initial.steps ≡ length l.steps) × ((l.k ≤ l.count) × Building l.net (words_of l.steps) l.due l.n l.k))
