-- The rules of a signal record besides those of its name, and what a record that keeps them all tells.
use Rattle.std.specs.Prelude.{ℕ, ◌+◌, ◌≤◌, List, Bool, false, ◌≡◌}
use Rattle.std.proofs.Common.{sym}
use Rattle.spec_tests.specs.Rules.{◌<?◌, ◌or◌, outside, sum_to}
use Rattle.spec_tests.specs.Options.{first_of}
use Rattle.spec_tests.specs.Laws.{or_no, no_lt, inside}
use Rattle.spec_rules.specs.Image.{field, signal_width}
use Rattle.spec_rules.specs.Checks.{bad_name, name_taken, bad_signal}
use Rattle.check_names.specs.Names.{wrong_name}
use Rattle.check_names.specs.Earlier.{earlier_of, first_either, or_assoc}

-- width, direction and the widths so far
unfoldable pub wrong_signal : List ℕ → ℕ → Bool
wrong_signal s r = outside (signal_width s r) 1 1024 or 2 <? field s 0 r 3 or 4096 <? sum_to (signal_width s) (r + 1)

signal_rules : (s : List ℕ) (r : ℕ) → bad_signal s r ≡ (wrong_name s 0 r or wrong_signal s r)
unfolding bad_signal wrong_name wrong_signal
signal_rules s r = sym (or_assoc (bad_name s 0 r) (name_taken s 0 r) _)

pub first_signal : (s : List ℕ) (n : ℕ) → first_of (bad_signal s) n ≡ earlier_of (first_of (wrong_name s 0) n) (first_of (wrong_signal s) n)
first_signal s n = first_either (bad_signal s) (wrong_name s 0) (wrong_signal s) n (signal_rules s)

-- what a record that passes has
pub record GoodSignal (s : List ℕ) (r : ℕ) : Type 0 where
  pub name : bad_name s 0 r ≡ false
  pub fresh : name_taken s 0 r ≡ false
  pub width : (1 ≤ signal_width s r) × (signal_width s r ≤ 1024)
  pub direction : field s 0 r 3 ≤ 2
  pub total : sum_to (signal_width s) (r + 1) ≤ 4096

pub good_signal : (s : List ℕ) (r : ℕ) → bad_signal s r ≡ false → GoodSignal s r
unfolding bad_signal
good_signal s r e =
    let p = or_no e in
    let q = or_no p.1 in
    let t = or_no q.1 in
    let u = or_no t.1 in
    record { name = p.0; fresh = q.0; width = inside _ _ _ t.0; direction = no_lt _ _ u.0; total = no_lt _ _ u.1 }

pub sum_good : (s : List ℕ) (r : ℕ) → wrong_signal s r ≡ false → sum_to (signal_width s) (r + 1) ≤ 4096
unfolding wrong_signal
sum_good s r e = no_lt _ _ (or_no (or_no e).1).1
