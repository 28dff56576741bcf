-- What connecting one register is. Assumes nothing.
use Rattle.std.specs.Prelude.{false, List, ℕ}
use Rattle.spec_rules.specs.Image.{register_at, decode}
use Rattle.spec_model.specs.Builder.{Out, and_then}
use Rattle.spec_model.specs.Lowering.{State, register_steps, lower_all}
use Rattle.phase_register_records.specs.Registers.{bits_turn}

abbrev pub register_turn : List ℕ → ℕ → State → Out State
register_turn s k st = and_then (lower_all (decode s) false (register_steps (register_at s k)) st) (λ st₁. bits_turn s k (register_at s k) st₁)
