-- `trace_clash::lowest_clash` meets its contract. Assumes nothing.
use Prim.Native.Nat.{◌≤◌}
use mathlib.Core.Path.{◌≡◌}
use Rattle.trace_clash.specs.Words.{lowest_clash}
use Rattle.trace_clash.proofs.lowest_clash.Given as goal

abbrev pub invariant-loop-place : goal.invariant-loop-place
invariant-loop-place l = (l.lowest ≤ 16) × (l.lowest ≡ lowest_clash l.net l.old l.new l.places l.place-index)
