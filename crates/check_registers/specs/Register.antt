-- The rules of a register but for its name: where either is first broken is the earlier of two places.
use Rattle.std.specs.Prelude.{ℕ, Bool, List, ◌≡◌}
use Rattle.std.proofs.Common.{sym}
use Rattle.spec_tests.specs.Rules.{◌<?◌, ◌or◌}
use Rattle.spec_tests.specs.Options.{first_of}
use Rattle.spec_rules.specs.Image.{field, signal_width}
use Rattle.spec_rules.specs.Checks.{no_signal, bad_bit, bad_optional, bad_value, bad_reset, driven, bad_register}
use Rattle.check_names.specs.Names.{wrong_name}
use Rattle.check_names.specs.Earlier.{earlier_of, first_either, or_assoc}

-- record r, whose target is signal p
unfoldable pub bad_rest_of : List ℕ → ℕ → ℕ → Bool
bad_rest_of s r p =
    no_signal s p
    or bad_value s (field s 4 r 3) (signal_width s p)
    or bad_bit s (field s 4 r 4) or 1 <? field s 4 r 5
    or bad_optional s 4 r 6
    or bad_reset s r (signal_width s p)
    or driven s r 0 p

unfoldable pub bad_rest : List ℕ → ℕ → Bool
bad_rest s r = bad_rest_of s r (field s 4 r 2)

pub rest_of : (s : List ℕ) (r p : ℕ) (b : Bool) → p ≡ field s 4 r 2 → b ≡ bad_rest_of s r p → b ≡ bad_rest s r
unfolding bad_rest
rest_of s r p b e h = rw e at h

pub name_or_rest : (s : List ℕ) (r : ℕ) → bad_register s r ≡ (wrong_name s 4 r or bad_rest s r)
unfolding bad_register wrong_name bad_rest bad_rest_of
name_or_rest s r = sym (or_assoc _ _ _)

pub first_earlier : (s : List ℕ) (n : ℕ) → first_of (bad_register s) n ≡ earlier_of (first_of (wrong_name s 4) n) (first_of (bad_rest s) n)
first_earlier s n = first_either _ _ _ n (name_or_rest s)
