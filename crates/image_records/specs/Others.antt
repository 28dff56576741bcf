-- What the code's signal, assignment, register and memory records stand for.
use Rattle.std.specs.Prelude.{ℕ, ◌+◌, List, ◌≡◌, eqb, Option, Some, None}
use Rattle.std.proofs.Math.Option as model
use Rattle.std.proofs.Math.Option.{none, some}
use Rattle.std.proofs.Common.{ap, ◌∙◌, arith}
use Rattle.spec_tests.specs.Rules.{◌≡?◌, pick}
use Rattle.spec_rtl.specs.Rtl as R
use Rattle.spec_rules.specs.Image as image
use Rattle.image_fields.specs.Fields.{field_in}
use Rattle.image_records.specs.declared.Direction.{Direction}
use Rattle.image_records.specs.declared.Direction.TheVariants as D
use Rattle.image_records.specs.declared.Signal.{Signal}
use Rattle.image_records.specs.declared.Assignment.{Assignment}
use Rattle.image_records.specs.declared.Control.{Control}
use Rattle.image_records.specs.declared.Reset.{Reset}
use Rattle.image_records.specs.declared.Register.{Register}
use Rattle.image_records.specs.declared.MemoryPort.{MemoryPort}
use Rattle.image_records.specs.declared.Memory.{Memory}

unfoldable pub direction_means : Direction → R.Dir
direction_means D.Internal = R.Internal
direction_means D.Input = R.Input
direction_means D.Output = R.Output

unfoldable pub signal_means : Signal → R.Sig
signal_means x = record { width = x.width; dir = direction_means x.direction }

unfoldable pub assignment_means : Assignment → R.Assign
assignment_means x = record { signal = x.signal; lsb = x.lsb; width = x.width; value = x.value }

unfoldable pub control_means : Control → R.Control
control_means x = record { signal = x.signal; level = x.level }

unfoldable pub enable_means : Option Control → model.Option R.Control
enable_means None = none
enable_means (Some x) = some (control_means x)

unfoldable pub reset_means : Option Reset → model.Option R.Reset
reset_means None = none
reset_means (Some x) = some (record { control = control_means x.control; asynchronous = x.asynchronous; value = x.value })

unfoldable pub register_means : Register → R.Register
register_means x = record { target = x.target; next = x.next; clock = x.clock; rising = x.rising; enable = enable_means x.enable; reset = reset_means x.reset }

unfoldable pub port_means : MemoryPort → R.Port
port_means x = record {
  read_address = x.read_address;
  read_data = x.read_data;
  read_enable = enable_means x.read_enable;
  write_address = x.write_address;
  write_data = x.write_data;
  write_enable = control_means x.write_enable;
  clock = x.clock;
  rising = x.rising;
}

unfoldable pub second_means : Option MemoryPort → model.Option R.Port
second_means None = none
second_means (Some x) = some (port_means x)

unfoldable pub memory_means : Memory → R.Memory
memory_means x = record { depth = x.depth; style = x.style; first = port_means x.first; second = second_means x.second }

-- fields f and f + 1 of record r of section k, whose part of the image is p: a control, one that may be absent
unfoldable pub control_in : List ℕ → ℕ → ℕ → ℕ → R.Control
control_in p k r f = image.control_of (field_in p k r f) (field_in p k r (f + 1))

unfoldable pub enable_in : List ℕ → ℕ → ℕ → ℕ → model.Option R.Control
enable_in p k r f = image.optional (field_in p k r f) (control_in p k r f)

-- a register's reset: fields 8 to 11
unfoldable pub reset_in : List ℕ → ℕ → model.Option R.Reset
reset_in p r = image.optional (field_in p 4 r 8) (record { control = control_in p 4 r 8; asynchronous = field_in p 4 r 10 ≡? 1; value = field_in p 4 r 11 })

-- the port whose fields begin at f
unfoldable pub port_in : List ℕ → ℕ → ℕ → R.Port
port_in p r f = image.port_of (λ i. field_in p 5 r (f + i))

unfoldable pub second_in : List ℕ → ℕ → model.Option R.Port
second_in p r = pick (field_in p 5 r image.has_second ≡? 0) none (some (port_in p r image.second_port))

-- ---- a record made of its parts stands for what the image says ----

pub reset_way : (p : List ℕ) (r : ℕ) (x : Control) (m v : ℕ) → control_means x ≡ control_in p 4 r 8 → m ≡ field_in p 4 r 10 → v ≡ field_in p 4 r 11 → reset_means (Some (record { control = x; asynchronous = eqb m 1; value = v })) ≡ some (record { control = control_in p 4 r 8; asynchronous = field_in p 4 r 10 ≡? 1; value = field_in p 4 r 11 })
unfolding reset_means ◌≡?◌
reset_way p r x m v ex em ev = rw (ex, em, ev)

pub register_way : (s : List ℕ) (r : ℕ) (p : List ℕ) (t n c e : ℕ) (x : Option Control) (y : Option Reset) → p ≡ image.part s 4 → t ≡ field_in p 4 r 2 → n ≡ field_in p 4 r 3 → c ≡ field_in p 4 r 4 → e ≡ field_in p 4 r 5 → enable_means x ≡ enable_in p 4 r 6 → reset_means y ≡ reset_in p r → register_means (record { target = t; next = n; clock = c; rising = eqb e 0; enable = x; reset = y }) ≡ image.register_at s r
unfolding register_means image.register_at image.register_of image.field enable_in reset_in control_in field_in ◌≡?◌
register_way s r p t n c e x y ep et en ec ee ex ey = rw (et, en, ec, ee, ex, ey, ep)

pub port_way : (p : List ℕ) (r f : ℕ) (ra rd wa wd c e : ℕ) (x : Option Control) (y : Control) → ra ≡ field_in p 5 r f → rd ≡ field_in p 5 r (f + 1) → enable_means x ≡ enable_in p 5 r (f + 2) → wa ≡ field_in p 5 r (f + 4) → wd ≡ field_in p 5 r (f + 5) → control_means y ≡ control_in p 5 r (f + 6) → c ≡ field_in p 5 r (f + 8) → e ≡ field_in p 5 r (f + 9) → port_means (record { read_address = ra; read_data = rd; read_enable = x; write_address = wa; write_data = wd; write_enable = y; clock = c; rising = eqb e 0 }) ≡ port_in p r f
unfolding port_means port_in image.port_of enable_in control_in ◌≡?◌
port_way p r f ra rd wa wd c e x y e0 e1 ex e4 e5 ey e8 e9 =
    let a : f + 2 + 1 ≡ f + 3 = omega arith in
    let b : f + 6 + 1 ≡ f + 7 = omega arith in
    let z : ra ≡ field_in p 5 r (f + 0) = e0 ∙ ap (field_in p 5 r) (omega arith) in
    rw (z, e1, ex, e4, e5, ey, e8, e9, a, b)

pub memory_way : (s : List ℕ) (r : ℕ) (p : List ℕ) (d y : ℕ) (x : MemoryPort) (z : Option MemoryPort) → p ≡ image.part s 5 → d ≡ field_in p 5 r 2 → y ≡ field_in p 5 r image.style_field → port_means x ≡ port_in p r image.first_port → second_means z ≡ second_in p r → memory_means (record { depth = d; style = y; first = x; second = z }) ≡ image.memory_at s r
unfolding memory_means image.memory_at image.field port_in second_in field_in
memory_way s r p d y x z ep ed ey ex ez = rw (ed, ey, ex, ez, ep)
