-- No more calls of a kind agree than entries were looked at.
use Rattle.std.proofs.Common.{◌≤◌}
use Rattle.replay.proofs.replay.Given as goal

abbrev pub invariant-loop : goal.invariant-loop
invariant-loop l = (l.checks ≤ l.counter) × (l.lowering ≤ l.counter)
