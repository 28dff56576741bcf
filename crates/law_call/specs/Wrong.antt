-- The promise refuses a wrong netlist: for y = not a, no call that accepts may leave words in which the output reads a. Assumes nothing.
use Rattle.std.specs.Prelude.{ℕ, List, refl}
use Rattle.spec_tests.specs.Rules.{Fine}
use Rattle.spec_rules.specs.Examples as example
use Rattle.spec_rules.proofs.Examples.{fails}
use Rattle.spec_call.specs.Call.{Lowered}

pub wrong_refused : (buffer scratch scratch' : List ℕ) → Lowered example.image 3 8 buffer scratch Fine example.wrong scratch' → ⊥
wrong_refused buffer scratch scratch' w = fails (w.demand3 refl)
