-- The rules of a memory but for its name, in parts, a port in two halves: where name or rest is first broken is the earlier of two places.
use Rattle.std.specs.Prelude.{ℕ, ◌+◌, ◌<◌, Bool, false, List, ◌≡◌}
use Rattle.spec_tests.specs.Rules.{◌<?◌, ◌≢?◌, ◌or◌, outside}
use Rattle.spec_tests.specs.Options.{first_of}
use Rattle.spec_tests.specs.Laws.{or_no}
use Rattle.spec_rules.specs.Image.{count_at_of, field, signal_width, width_field, style_field, latency_field, first_port, has_second}
use Rattle.spec_rules.specs.Checks.{no_signal, bad_bit, bad_control, bad_optional, bad_value, driven, bad_address, bad_port, bad_second, bad_memory}
use Rattle.check_names.specs.Names.{wrong_name}
use Rattle.check_references.specs.Good.{is_signal}
use Rattle.check_names.specs.Earlier.{earlier_of, first_either, or_assoc}

-- what a port reads, into signal p
unfoldable pub bad_read : List ℕ → ℕ → ℕ → ℕ → ℕ → Bool
bad_read s r f w p = bad_address s (field s 5 r f) or no_signal s p or signal_width s p ≢? w or bad_optional s 5 r (f + 2)

pub read_there : (s : List ℕ) (r f w p : ℕ) → bad_read s r f w p ≡ false → p < count_at_of s 0
unfolding bad_read
read_there s r f w p h = is_signal s p (or_no (or_no h).1).0

-- what it writes, and its clock
unfoldable pub bad_write : List ℕ → ℕ → ℕ → ℕ → Bool
bad_write s r f w =
    bad_address s (field s 5 r (f + 4))
    or bad_value s (field s 5 r (f + 5)) w
    or bad_control s 5 r (f + 6)
    or bad_bit s (field s 5 r (f + 8)) or 1 <? field s 5 r (f + 9)

pub port_halves : (s : List ℕ) (r f w : ℕ) → (bad_read s r f w (field s 5 r (f + 1)) or bad_write s r f w or driven s (count_at_of s 4) r (field s 5 r (f + 1))) ≡ bad_port s r f w
unfolding bad_read bad_write bad_port
port_halves s r f w = simp or_assoc

-- its depth, word width, style and latency, where the read data have w bits
unfoldable pub bad_shape : List ℕ → ℕ → ℕ → Bool
bad_shape s r w =
    outside (field s 5 r 2) 1 65536
    or field s 5 r width_field ≢? w
    or 2 <? field s 5 r style_field
    or field s 5 r latency_field ≢? 1

unfoldable pub bad_rest : List ℕ → ℕ → Bool
bad_rest s r =
    let w = signal_width s (field s 5 r (first_port + 1)) in
    bad_shape s r w or bad_port s r first_port w or bad_second s r (field s 5 r has_second) w

pub name_or_rest : (s : List ℕ) (r : ℕ) → bad_memory s r ≡ (wrong_name s 5 r or bad_rest s r)
unfolding bad_memory wrong_name bad_shape bad_rest
name_or_rest s r = simp or_assoc

pub first_earlier : (s : List ℕ) (n : ℕ) → first_of (bad_memory s) n ≡ earlier_of (first_of (wrong_name s 5) n) (first_of (bad_rest s) n)
first_earlier s n = first_either _ _ _ n (name_or_rest s)
