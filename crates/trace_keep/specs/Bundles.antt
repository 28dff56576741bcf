-- The structs of the code as the lists that the laws speak of. Assumes nothing.
use Rattle.std.specs.Prelude.{◌≡◌, Bool, true, false, length, Result, Ok, Err}
use Rattle.trace_line.specs.declared.Tables.{Tables}
use Rattle.trace_line.specs.declared.State.{State}
use Rattle.trace_keep.specs.declared.NameRefused.{NameRefused}
use Rattle.trace_keep.specs.declared.Moments.{Moments}
use Rattle.trace_keep.specs.Slots.{Roomy, Used}

-- what is used of the tables
abbrev pub UsedBy : Tables → Type 0
UsedBy t = Used t.net.now t.memories.now (length t.memories.now)

abbrev pub RoomyIn : State → Moments → Type 0
RoomyIn s k = Roomy s.values.now s.memory.now k.names.now k.slots.now

-- the same lent tables, each as long as it was
abbrev pub SameKept : Moments → Moments → Type 0
SameKept k k' =
    ((k'.names.ghost_name ≡ k.names.ghost_name) × (k'.slots.ghost_name ≡ k.slots.ghost_name))
    × ((length k'.names.now ≡ length k.names.now) × (length k'.slots.now ≡ length k.slots.now))

-- a keep or a back is done
abbrev pub done_of : Result (Unit {0}) NameRefused → Bool
done_of (Ok u) = true
done_of (Err e) = false
