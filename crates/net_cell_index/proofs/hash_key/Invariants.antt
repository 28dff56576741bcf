-- `net_cell_index::hash_key` meets its contract. Assumes nothing.
use mathlib.Core.Path.{◌≡◌}
use Prim.Native.Nat.{◌≤◌}
use lib.ListN.{length, drop}
use Rattle.net_index.specs.Index.{hash_words}
use Rattle.net_cell_index.proofs.hash_key.Given as goal

abbrev pub invariant-loop-x : goal.invariant-loop-x
invariant-loop-x l = (l.x-index ≤ length l.key) × (hash_words 0 l.key ≡ hash_words l.h (drop l.x-index l.key))
