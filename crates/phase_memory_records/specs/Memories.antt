-- When a memory's ports are there and lowered, and the words of its record. Assumes nothing.
use Rattle.std.specs.Prelude.{◌≡◌, true, List, [], ◌∷◌, ◌++◌, ℕ, ◌<◌, length}
use Rattle.std.proofs.Math.Option.{Option, none, some}
use Rattle.spec_rtl.specs.Rtl.{Module, Port, Memory}
use Rattle.spec_rules.specs.Image.{count_at_of}
use Rattle.check_references.specs.Good.{GoodBit}
use Rattle.check_memories.specs.Good.{GoodAddress}
use Rattle.spec_model.specs.Words.{low_word, control_words}
use Rattle.spec_model.specs.Lowering.{State, signal_width, signal_net, signal_nets, whole_nets, net_control, option_control, ports_words}
use Rattle.scratch_view.specs.View.{limit_of, is_whole}
use Rattle.phase_parts.specs.Parts.{ThereControl}

abbrev pub memory_words : Module → ℕ → Memory → State → List ℕ
memory_words m k x st = 2 ∷ k ∷ x.depth ∷ x.style ∷ 1 ∷ ports_words m st x.first x.second

-- ---- what a port names is in the image ----

pub record PortThere (s : List ℕ) (p : Port) : Type 0 where
  pub read_address : GoodAddress s p.read_address
  pub read_data : p.read_data < count_at_of s 0
  pub read_enable : ThereControl s p.read_enable
  pub write_address : GoodAddress s p.write_address
  pub write_data : p.write_data < count_at_of s 1
  pub write_enable : GoodBit s p.write_enable.signal
  pub clock : GoodBit s p.clock

abbrev pub SecondThere : List ℕ → Option Port → Type 0
SecondThere s none = Unit {0}
SecondThere s (some p) = PortThere s p

pub record MemoryThere (s : List ℕ) (x : Memory) : Type 0 where
  pub first : PortThere s x.first
  pub second : SecondThere s x.second

-- ---- its addresses and data are lowered ----

pub record PortWhole (s w : List ℕ) (p : Port) : Type 0 where
  pub read_address : is_whole s (limit_of w) w p.read_address ≡ true
  pub write_address : is_whole s (limit_of w) w p.write_address ≡ true
  pub write_data : is_whole s (limit_of w) w p.write_data ≡ true

abbrev pub SecondWhole : List ℕ → List ℕ → Option Port → Type 0
SecondWhole s w none = Unit {0}
SecondWhole s w (some p) = PortWhole s w p

pub record MemoryWhole (s w : List ℕ) (x : Memory) : Type 0 where
  pub first : PortWhole s w x.first
  pub second : SecondWhole s w x.second

-- ---- a port's words: widths and nets, then controls ----

abbrev pub read_nets : Module → State → Port → List ℕ
read_nets m st p = whole_nets st p.read_address ++ signal_nets st p.read_data 0 (signal_width m p.read_data)

abbrev pub write_nets : State → Port → List ℕ
write_nets st p = whole_nets st p.write_address ++ whole_nets st p.write_data

abbrev pub net_words : Module → State → Port → List ℕ
net_words m st p =
    let ra = whole_nets st p.read_address in
    let rd = signal_nets st p.read_data 0 (signal_width m p.read_data) in
    let wa = whole_nets st p.write_address in
    let wd = whole_nets st p.write_data in
    length ra ∷ length rd ∷ length wa ∷ length wd ∷ ra ++ rd ++ wa ++ wd

abbrev pub tail_words : State → Port → List ℕ
tail_words st p =
    control_words (option_control st p.read_enable) ++ control_words (some (net_control st p.write_enable)) ++ (signal_net st p.clock 0 ∷ low_word p.rising ∷ [])
