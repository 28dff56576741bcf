-- `connect_memories`: each memory's record has the nets of its addresses, data and controls. Assumes nothing.
use Rattle.std.specs.Prelude.{◌≡◌, refl, Bool}
use mathlib.Core.List.{List, ◌++◌, append_assoc}
use Rattle.std.proofs.Math.Option.{Option, none, some}
use Prim.Native.Nat.{ℕ, ◌+◌}
use Rattle.spec_rtl.specs.Rtl.{Module, Memory, Port}
use Rattle.spec_rules.specs.NetlistImage as N
use Rattle.spec_model.specs.Lowering.{State, signal_width, signal_net, signal_nets, whole_nets, net_control, option_control, word_steps, enable_steps, bit_step, control_steps, second_steps, memory_steps, port_words}
use Rattle.law_walk.specs.Good.{GoodPort}
use Rattle.law_walk.specs.Reads.{AllAsked, AllAfter}
use Rattle.law_records.specs.Back.{memory_port, words_of}
use Rattle.law_phases.specs.Pushed.{asked_append, after_append, control_asked}

-- a port as it is recorded
abbrev pub cell_of : Module → State → Port → N.MemoryPort
cell_of m st p =
    memory_port (whole_nets st p.read_address) (signal_nets st p.read_data 0 (signal_width m p.read_data)) (whole_nets st p.write_address) (whole_nets st p.write_data)
    (option_control st p.read_enable) (net_control st p.write_enable) (signal_net st p.clock 0) p.rising

abbrev pub words_in : Module → State → Port → List ℕ
words_in m st p =
    words_of (whole_nets st p.read_address) (signal_nets st p.read_data 0 (signal_width m p.read_data)) (whole_nets st p.write_address) (whole_nets st p.write_data)
    (option_control st p.read_enable) (net_control st p.write_enable) (signal_net st p.clock 0) p.rising

pub words_in_law : (m : Module) (st : State) (p : Port) → port_words m st p ≡ words_in m st p
words_in_law m st p = simp append_assoc

port_asked : (m : Module) (p : Port) → GoodPort m p → AllAsked m (word_steps p) × AllAsked m (enable_steps p)
port_asked m p g = ((g.read_address, (g.write_address, (g.write_data, tt))), asked_append m (bit_step p.write_enable.signal) (control_steps p.read_enable) (tt, tt) (control_asked m p.read_enable))

second_asked : (m : Module) (o : Option Port) → ((q : Port) → o ≡ some q → GoodPort m q) → AllAsked m (second_steps o)
second_asked m none g = tt
second_asked m (some p) g =
    let h = port_asked m p (g p refl) in
    asked_append m (word_steps p ++ enable_steps p) (bit_step p.clock) (asked_append m (word_steps p) (enable_steps p) h.0 h.1) (tt, tt)

pub steps_asked : (m : Module) (x : Memory) → GoodPort m x.first → ((q : Port) → x.second ≡ some q → GoodPort m q) → AllAsked m (memory_steps x)
steps_asked m x g h =
    let a = port_asked m x.first g in
    asked_append m (word_steps x.first ++ bit_step x.first.clock ++ enable_steps x.first) (second_steps x.second)
    (asked_append m (word_steps x.first ++ bit_step x.first.clock) (enable_steps x.first) (asked_append m (word_steps x.first) (bit_step x.first.clock) a.0 (tt, tt)) a.1)
    (second_asked m x.second h)

-- what is there of a port after its steps
pub record PortAfter (m : Module) (ob : Bool) (st : State) (p : Port) : Type 0 where
  pub words : AllAfter ob st (word_steps p)
  pub clock : AllAfter ob st (bit_step p.clock)
  pub write : AllAfter ob st (bit_step p.write_enable.signal)
  pub read : AllAfter ob st (control_steps p.read_enable)

abbrev pub SecondAfter : Module → Bool → State → Option Port → Type 0
SecondAfter m ob st none = Unit {0}
SecondAfter m ob st (some p) = PortAfter m ob st p

second_ready : (m : Module) (ob : Bool) (st : State) (o : Option Port) → AllAfter ob st (second_steps o) → SecondAfter m ob st o
second_ready m ob st none h = tt
second_ready m ob st (some p) h =
    let a = after_append ob st (word_steps p ++ enable_steps p) (bit_step p.clock) h in
    let b = after_append ob st (word_steps p) (enable_steps p) a.0 in
    let c = after_append ob st (bit_step p.write_enable.signal) (control_steps p.read_enable) b.1 in
    record { words = b.0; clock = a.1; write = c.0; read = c.1 }

pub first_ready : (m : Module) (ob : Bool) (st : State) (x : Memory) → AllAfter ob st (memory_steps x) → PortAfter m ob st x.first × SecondAfter m ob st x.second
first_ready m ob st x h =
    let p = x.first in
    let a = after_append ob st (word_steps p ++ bit_step p.clock ++ enable_steps p) (second_steps x.second) h in
    let b = after_append ob st (word_steps p ++ bit_step p.clock) (enable_steps p) a.0 in
    let c = after_append ob st (word_steps p) (bit_step p.clock) b.0 in
    let d = after_append ob st (bit_step p.write_enable.signal) (control_steps p.read_enable) b.1 in
    (record { words = c.0; clock = c.1; write = d.0; read = d.1 }, second_ready m ob st x.second a.1)
