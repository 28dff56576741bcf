-- The structs of the code as the lists that the laws speak of, and what a line comes to before a refusal is written. Assumes nothing.
use Rattle.std.specs.Prelude.{ℕ, ◌≡◌, Bool, true, false, List, length, Result, Ok, Err}
use Rattle.trace_line.specs.declared.Tables.{Tables}
use Rattle.trace_line.specs.declared.State.{State}
use Rattle.trace_line.specs.Bundles.{steps_of}
use Rattle.trace_keep.specs.declared.Moments.{Moments}
use Rattle.trace_answer.specs.Settings.{Refuses, Settles}
use Rattle.trace_answer.specs.Lines.{Underway, Answers}
use Rattle.trace_answer.specs.declared.Refusal.{Refusal}
use Rattle.trace_answer.specs.declared.Refusal.TheVariants.{Line, Clash, Name}
use Rattle.trace_answer.specs.declared.Last.{Last}

abbrev pub number_of : Refusal → ℕ
number_of Line = 13
number_of (Clash x) = 14
number_of Name = 15

abbrev pub place_of : Refusal → ℕ
place_of Line = 0
place_of (Clash x) = x
place_of Name = 0

-- where a line's text ends, and whether it is the last
abbrev pub end_of : Result ℕ Last → ℕ
end_of (Ok to) = to
end_of (Err e) = e.at

abbrev pub stop_of : Result ℕ Last → Bool
stop_of (Ok to) = false
stop_of (Err e) = true

-- a run is under way before line k
abbrev pub Runs : Tables → ℕ → State → Moments → Type 0
Runs t k s m =
    Underway t.net.now (steps_of t) (length t.steps.now) t.inputs.now t.outputs.now t.registers.now (length t.registers.now) t.memories.now (length t.memories.now) k
    s.values.now s.memory.now m.names.now m.slots.now
    × (length s.before.now ≡ length s.values.now)

abbrev pub SettlesBy : Tables → ℕ → List ℕ → List ℕ → ℕ → State → ℕ → Bool → List ℕ → State → Type 0
SettlesBy t k l out at s to stop out' s' =
    Settles t.net.now (steps_of t) (length t.steps.now) t.inputs.now t.outputs.now t.registers.now (length t.registers.now) t.memories.now (length t.memories.now) k l out at
    s.values.now s.memory.now to stop out' s'.values.now s'.memory.now

abbrev pub AnswersBy : Tables → ℕ → List ℕ → List ℕ → ℕ → State → Moments → ℕ → Bool → List ℕ → State → Moments → Type 0
AnswersBy t k l out at s m to stop out' s' m' =
    Answers t.net.now (steps_of t) (length t.steps.now) t.inputs.now t.outputs.now t.registers.now (length t.registers.now) t.memories.now (length t.memories.now) k l out at
    s.values.now s.memory.now m.names.now m.slots.now to stop out' s'.values.now s'.memory.now m'.names.now m'.slots.now

-- what has to be said of a refused line is so once the refusal is written
abbrev pub SettlesOr : Tables → ℕ → List ℕ → List ℕ → ℕ → State → Result ℕ Refusal → List ℕ → State → Type 0
SettlesOr t k l out at s (Ok to) out' s' = SettlesBy t k l out at s to false out' s'
SettlesOr t k l out at s (Err r) out' s' = (out' ≡ out) × ((to : ℕ) (stop : Bool) (o : List ℕ) → Refuses (number_of r) k (place_of r) out at o to stop → SettlesBy t k l out at s to stop o s')

abbrev pub AnswersOr : Tables → ℕ → List ℕ → List ℕ → ℕ → State → Moments → Result ℕ Refusal → List ℕ → State → Moments → Type 0
AnswersOr t k l out at s m (Ok to) out' s' m' = AnswersBy t k l out at s m to false out' s' m'
AnswersOr t k l out at s m (Err r) out' s' m' = (out' ≡ out) × ((to : ℕ) (stop : Bool) (o : List ℕ) → Refuses (number_of r) k (place_of r) out at o to stop → AnswersBy t k l out at s m to stop o s' m')
