-- While the run goes on, it is underway at its next line, and the bytes held are among those that the buffer has room for.
use Rattle.std.proofs.Common.{◌+◌, ◌<◌, ◌≤◌, length}
use Rattle.trace_answer.specs.Bundles.{Runs}
use Rattle.trace.proofs.run.Given as goal

abbrev pub invariant-loop : goal.invariant-loop
invariant-loop l =
    (length l.tables.inputs.now + 13 < length l.bytes)
    × Runs l.tables l.h.line l.state l.kept
    × (l.h.from ≤ l.h.end)
    × (l.h.end ≤ length l.bytes)
