-- The structs of the code as the lists that the laws speak of. Assumes nothing.
use Rattle.std.specs.Prelude.{ℕ, ◌≡◌, List, length, Result, Ok, Err}
use Rattle.trace_pass.specs.Coded.{words_of}
use Rattle.trace_line.specs.State.{Prepared}
use Rattle.trace_line.specs.Standing.{Standing, After, Taken}
use Rattle.trace_line.specs.declared.Tables.{Tables}
use Rattle.trace_line.specs.declared.State.{State}
use Rattle.trace_line.specs.declared.Clash.{Clash}

-- the plan's words
abbrev pub steps_of : Tables → List ℕ
steps_of t = words_of t.steps.now

-- these are the tables of this netlist
abbrev pub PreparedBy : Tables → Type 0
PreparedBy t = Prepared t.net.now (steps_of t) (length t.steps.now) t.inputs.now t.outputs.now t.registers.now (length t.registers.now) t.memories.now (length t.memories.now)

-- a run stands before line k
abbrev pub Stands : Tables → ℕ → State → Type 0
Stands t k s =
    Standing t.net.now (steps_of t) (length t.steps.now) t.inputs.now t.outputs.now t.registers.now (length t.registers.now) t.memories.now (length t.memories.now) k s.values.now s.memory.now
    × (length s.before.now ≡ length s.values.now)

-- what line k, with these bytes, makes of the tables
abbrev pub Goes : Tables → ℕ → List ℕ → State → State → Type 0
Goes t k l s s' =
    After t.net.now (steps_of t) (length t.steps.now) t.inputs.now t.outputs.now t.registers.now (length t.registers.now) t.memories.now (length t.memories.now) k l
    s.values.now s.memory.now s'.values.now s'.memory.now

abbrev pub Takes : Tables → ℕ → List ℕ → State → ℕ → State → Type 0
Takes t k l s clash s' =
    Taken t.net.now (steps_of t) (length t.steps.now) t.inputs.now t.outputs.now t.registers.now (length t.registers.now) t.memories.now (length t.memories.now) k l
    s.values.now s.memory.now clash s'.values.now s'.memory.now

-- the same lent tables, each as long as it was
abbrev pub SameTables : State → State → Type 0
SameTables s s' =
    ((s'.values.ghost_name ≡ s.values.ghost_name) × (s'.before.ghost_name ≡ s.before.ghost_name) × (s'.memory.ghost_name ≡ s.memory.ghost_name))
    × ((length s'.values.now ≡ length s.values.now) × (length s'.before.now ≡ length s.before.now) × (length s'.memory.now ≡ length s.memory.now))

-- the memory with a write clash, 16 where there is none
abbrev pub clash_in : Result (Unit {0}) Clash → ℕ
clash_in (Ok u) = 16
clash_in (Err c) = c.memory
