-- `trace_fit::memory_bits` meets its contract. Assumes nothing.
use Prim.Native.Nat.{◌*◌, ◌≤◌}
use lib.ListN.{length}
use mathlib.Core.Path.{◌≡◌}
use Rattle.spec_tests.specs.Rules.{sum_to}
use Rattle.trace_fit.specs.Fit.{bits_at}
use Rattle.trace_fit.proofs.memory_bits.Given as goal

abbrev pub invariant-loop-place : goal.invariant-loop-place
invariant-loop-place l = (l.place-index ≤ (length l.places)) × ((l.sum ≡ sum_to (bits_at l.net l.places) l.place-index) × (l.sum ≤ l.place-index * 67108864))
