-- `check_header::start` meets its contract. The loop's invariant: at is where section j has to start. Assumes nothing.
use Prim.Native.Nat.{◌≤◌, ◌+◌, ◌*◌}
use mathlib.Core.Path.{◌≡◌}
use Rattle.spec_rules.specs.Image.{start_of}
use Rattle.check_header.proofs.start.Given as goal

abbrev pub invariant-loop-j : goal.invariant-loop-j
invariant-loop-j l = (l.j ≤ l.k) × (l.at ≡ start_of l.image l.j) × (l.at ≤ 64 + l.j * 463856467968)
