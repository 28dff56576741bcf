-- The structs of the code as the lists that the laws speak of. Assumes nothing.
use Rattle.std.specs.Prelude.{ℕ, Bool, true, false, List, length}
use Rattle.trace_line.specs.declared.Tables.{Tables}
use Rattle.trace_line.specs.declared.State.{State}
use Rattle.trace_line.specs.Bundles.{steps_of}
use Rattle.trace_keep.specs.declared.Moments.{Moments}
use Rattle.trace_run.specs.Ran.{Ran}
use Rattle.trace_run.specs.declared.End.{End}
use Rattle.trace_run.specs.declared.End.TheVariants.{Full, Wait, Last}

-- the next line must still come; the text is the last
abbrev pub wait_of : End → Bool
wait_of Full = false
wait_of Wait = true
wait_of Last = false

abbrev pub stop_of : End → Bool
stop_of Full = false
stop_of Wait = false
stop_of Last = true

abbrev pub RanBy : Tables → ℕ → List ℕ → State → Moments → ℕ → ℕ → ℕ → Bool → Bool → List ℕ → State → Moments → Type 0
RanBy t k bytes s m used at k' wait stop out s' m' =
    Ran t.net.now (steps_of t) (length t.steps.now) t.inputs.now t.outputs.now t.registers.now (length t.registers.now) t.memories.now (length t.memories.now) k bytes
    s.values.now s.memory.now m.names.now m.slots.now used at k' wait stop out s'.values.now s'.memory.now m'.names.now m'.slots.now
