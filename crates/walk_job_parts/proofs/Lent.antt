-- A part of a list that was lent, in the whole list again. Assumes nothing.
use mathlib.Core.Path.{◌≡◌}
use mathlib.Core.List.{List, ◌++◌}
use Prim.Native.Nat.{ℕ, ◌≤◌}
use lib.ListN.{length, take}
use lib.Seq.{take-append-le, take_at}
use Rattle.spec_model.specs.Builder.{Made}
use Rattle.net_fold.specs.Values.{Fills}
use Rattle.std.specs.Prelude.{Result}
use Rattle.net_nodes.specs.declared.Full.{Full}

module _ (m : Made (List ℕ)) (n : ℕ) (r : Result (Unit {0}) Full) (ns rest w idx : List ℕ) where
  pub back_front : (k : ℕ) → k ≤ length ns → Fills m n r (take k ns) w idx → Fills m n r (take k (ns ++ rest)) w idx
  back_front k h g = rw (take-append-le k ns rest h) g

  pub back_whole : (k : ℕ) → length ns ≡ k → Fills m n r ns w idx → Fills m n r (take k (ns ++ rest)) w idx
  back_whole k e g = rw (take_at ns rest k e) g
