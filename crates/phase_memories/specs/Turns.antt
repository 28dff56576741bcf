-- What connecting one memory is. Assumes nothing.
use Rattle.std.specs.Prelude.{false, List, ◌++◌, ℕ}
use Rattle.spec_rtl.specs.Rtl.{Port}
use Rattle.spec_rules.specs.Image.{memory_at, decode}
use Rattle.spec_model.specs.Builder.{Out, and_then}
use Rattle.spec_model.specs.Lowering.{State, bit_step, word_steps, enable_steps, Step, memory_steps, lower_all, push_record}
use Rattle.phase_memory_records.specs.Memories.{memory_words}

-- at the first port the clock is lowered before the enables, at the second after them
abbrev pub first_steps : Port → List Step
first_steps p = word_steps p ++ bit_step p.clock ++ enable_steps p

abbrev pub last_steps : Port → List Step
last_steps p = word_steps p ++ enable_steps p ++ bit_step p.clock

abbrev pub memory_turn : List ℕ → ℕ → State → Out State
memory_turn s k st = and_then (lower_all (decode s) false (memory_steps (memory_at s k)) st) (λ st₁. push_record (memory_words (decode s) k (memory_at s k) st₁) st₁)
