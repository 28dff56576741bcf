-- What a signal bit, a register and a memory need, without the walk; which bits are needed, and which need themselves (docs/RULES.md,
-- needed bits). Assumes nothing.
use Rattle.std.specs.Prelude.{ℕ, zero, suc, ◌≡◌, ◌⊎◌, List, [], ◌∷◌, ◌++◌}
use Rattle.std.proofs.Math.Option.{Option, none, some}
use Rattle.spec_rtl.specs.Rtl as R
use Rattle.spec_rtl.specs.Rtl.{Module, Driver, driver}
use Rattle.spec_needs.specs.Reads.{Place, whole_reads}

-- ---- what needs what ----

-- "A combinational bit's value is that bit of its driver, and the driver is needed whole." Needs end at inputs, register targets and
-- read data; an undriven bit needs nothing
abbrev pub driven_needs : Module → Driver → List Place
driven_needs m R.FromInput = []
driven_needs m (R.FromRegister r) = []
driven_needs m (R.FromData k second) = []
driven_needs m (R.FromExpr e o) = whole_reads m.exprs e
driven_needs m R.Nothing = []

unfoldable pub bit_needs : Module → Place → List Place
bit_needs m x = driven_needs m (driver m x.0 x.1)

abbrev pub control_needs : Option R.Control → List Place
control_needs none = []
control_needs (some c) = (c.signal, 0) ∷ []

abbrev pub reset_needs : Module → Option R.Reset → List Place
reset_needs m none = []
reset_needs m (some r) = whole_reads m.exprs r.value ++ ((r.control.signal, 0) ∷ [])

unfoldable pub register_needs : Module → R.Register → List Place
register_needs m r = whole_reads m.exprs r.next ++ ((r.clock, 0) ∷ control_needs r.enable ++ reset_needs m r.reset)

abbrev pub port_needs : Module → R.Port → List Place
port_needs m p =
    whole_reads m.exprs p.read_address ++ whole_reads m.exprs p.write_address ++ whole_reads m.exprs p.write_data
    ++ ((p.clock, 0) ∷ (p.write_enable.signal, 0) ∷ control_needs p.read_enable)

abbrev pub second_needs : Module → Option R.Port → List Place
second_needs m none = []
second_needs m (some p) = port_needs m p

unfoldable pub memory_needs : Module → R.Memory → List Place
memory_needs m x = port_needs m x.first ++ second_needs m x.second

-- ---- where needs start: the output bits, and what registers and memories need ----

abbrev pub bits_of : ℕ → ℕ → List Place
bits_of s zero = []
bits_of s (suc w) = bits_of s w ++ ((s, w) ∷ [])

abbrev pub output_bits : R.Dir → ℕ → ℕ → List Place
output_bits R.Internal s w = []
output_bits R.Input s w = []
output_bits R.Output s w = bits_of s w

unfoldable pub outputs : ℕ → List R.Sig → List Place
outputs s [] = []
outputs s (x ∷ xs) = output_bits x.dir s x.width ++ outputs (suc s) xs

unfoldable pub registers_need : Module → List R.Register → List Place
registers_need m [] = []
registers_need m (r ∷ rs) = register_needs m r ++ registers_need m rs

unfoldable pub memories_need : Module → List R.Memory → List Place
memories_need m [] = []
memories_need m (x ∷ xs) = memory_needs m x ++ memories_need m xs

unfoldable pub starts : Module → List Place
starts m = memories_need m m.memories ++ registers_need m m.registers ++ outputs 0 m.signals

-- ---- needed, and needed by itself ----

abbrev pub In : Place → List Place → Type 0
In x [] = ⊥
In x (y ∷ ys) = (x ≡ y) ⊎ In x ys

-- a bit at which needs start, or that a needed bit needs
pub data Needed (m : Module) : Place → Type 0 where
  start : {x : Place} → In x (starts m) → Needed m x
  further : {x y : Place} → Needed m x → In y (bit_needs m x) → Needed m y

-- x needs y, at once or through other bits
pub data Needs (m : Module) (x : Place) : Place → Type 0 where
  once : {y : Place} → In y (bit_needs m x) → Needs m x y
  through : {y z : Place} → Needs m x y → In z (bit_needs m y) → Needs m x z
