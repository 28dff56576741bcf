-- `trace_image::read_words` meets its contract. Assumes nothing.
use Prim.Native.Nat.{◌/◌, ◌≤◌}
use mathlib.Core.Path.{◌≡◌}
use lib.ListN.{length}
use Rattle.trace_image.specs.Words.{Reading}
use Rattle.trace_image.proofs.read_words.Given as goal

abbrev pub invariant-loop-i : goal.invariant-loop-i
invariant-loop-i l = (l.n ≡ length l.bytes / 4) × (l.n ≤ length l.initial.net) × (length l.net ≡ length l.initial.net) × Reading l.bytes l.net l.i
