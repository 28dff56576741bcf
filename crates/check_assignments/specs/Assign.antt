-- The rule of an assignment over its fields.
use Rattle.std.specs.Prelude.{ℕ, ◌+◌, Bool, List, ◌≡◌}
use Rattle.spec_tests.specs.Rules.{◌<?◌, ◌≢?◌, ◌or◌, outside}
use Rattle.spec_rules.specs.Image.{field, signal_width, expr_width}
use Rattle.spec_rules.specs.Checks.{no_signal, no_expr, is_input, assigned, bad_assign}

-- record r: w bits of signal p from at on, by expression e
unfoldable pub bad_assign_of : List ℕ → ℕ → ℕ → ℕ → ℕ → ℕ → Bool
bad_assign_of s r p at w e =
    no_signal s p or outside w 1 1024 or signal_width s p <? at + w
    or no_expr s e or expr_width s e ≢? w
    or is_input s p or assigned s r p at w

pub bad_of : (s : List ℕ) (r p at w e : ℕ) (b : Bool) → p ≡ field s 3 r 0 → at ≡ field s 3 r 1 → w ≡ field s 3 r 2 → e ≡ field s 3 r 3 → b ≡ bad_assign_of s r p at w e → b ≡ bad_assign s r
unfolding bad_assign bad_assign_of
bad_of s r p at w e b i j k l h = rw (i, j, k, l) at h
