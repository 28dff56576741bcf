-- The structs of the code as the lists that the laws speak of. Assumes nothing.
use Rattle.std.specs.Prelude.{ℕ, ◌<◌, Bool, true, false, List, length, Option, Some, None, Result, Ok, Err}
use Rattle.trace_line.specs.declared.Tables.{Tables}
use Rattle.trace_line.specs.declared.State.{State}
use Rattle.trace_line.specs.Bundles.{steps_of}
use Rattle.trace_keep.specs.declared.Moments.{Moments}
use Rattle.trace_answer.specs.declared.Last.{Last}
use Rattle.trace_lines.specs.Answers.{LineEnd, Answered}
use Rattle.trace_lines.specs.declared.Progress.{Progress}
use Rattle.trace_lines.specs.declared.Progress.TheVariants.{Line, Wait}

-- the first line end of these bytes, if there is one
abbrev pub Ends : List ℕ → Option ℕ → Type 0
Ends bytes (Some r) = LineEnd bytes r × (r < length bytes)
Ends bytes None = LineEnd bytes (length bytes)

-- how many bytes are used up, where the text ends that begins at a place, and whether it is the last
abbrev pub used_of : Result Progress Last → ℕ
used_of (Ok (Line used to)) = used
used_of (Ok Wait) = 0
used_of (Err e) = 0

abbrev pub to_of : ℕ → Result Progress Last → ℕ
to_of at (Ok (Line used to)) = to
to_of at (Ok Wait) = at
to_of at (Err e) = e.at

abbrev pub stop_of : Result Progress Last → Bool
stop_of (Ok p) = false
stop_of (Err e) = true

-- a line that is done has used up some bytes
abbrev pub SomeUsed : Result Progress Last → Type 0
SomeUsed (Ok (Line used to)) = 0 < used
SomeUsed (Ok Wait) = Unit {0}
SomeUsed (Err e) = Unit {0}

abbrev pub AnsweredBy : Tables → ℕ → List ℕ → List ℕ → ℕ → State → Moments → ℕ → ℕ → Bool → List ℕ → State → Moments → Type 0
AnsweredBy t k bytes out at s m used to stop out' s' m' =
    Answered t.net.now (steps_of t) (length t.steps.now) t.inputs.now t.outputs.now t.registers.now (length t.registers.now) t.memories.now (length t.memories.now) k bytes out at
    s.values.now s.memory.now m.names.now m.slots.now used to stop out' s'.values.now s'.memory.now m'.names.now m'.slots.now
