-- A turn of a run, of the structs of the code. Assumes nothing.
use Rattle.std.specs.Prelude.{ℕ, ◌≡◌, refl, false, List, length}
use Rattle.trace_line.specs.declared.Tables.{Tables}
use Rattle.trace_line.specs.declared.State.{State}
use Rattle.trace_line.specs.Bundles.{steps_of}
use Rattle.trace_keep.specs.declared.Moments.{Moments}
use Rattle.trace_run.specs.declared.End.{End}
use Rattle.trace_run.specs.declared.End.TheVariants.{Full, Wait, Last}
use Rattle.trace_run.specs.Bundles.{stop_of}
use Rattle.trace.specs.Turn.{Turned}

abbrev pub TurnedBy : Tables → ℕ → List ℕ → State → Moments → ℕ → List ℕ → State → Moments → Type 0
TurnedBy t k bytes s m k' bytes' s' m' =
    Turned t.net.now (steps_of t) (length t.steps.now) t.inputs.now t.outputs.now t.registers.now (length t.registers.now) t.memories.now (length t.memories.now)
    k bytes s.values.now s.memory.now m.names.now m.slots.now k' bytes' s'.values.now s'.memory.now m'.names.now m'.slots.now

-- no other end than the last stops the run
pub goes_more : (e : End) → (e ≡ Last → ⊥) → stop_of e ≡ false
goes_more Full n = refl
goes_more Wait n = refl
goes_more Last n = absurd (n refl)
