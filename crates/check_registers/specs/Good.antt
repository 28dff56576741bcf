-- What a register record that breaks no rule tells: `good_register`.
use Rattle.std.specs.Prelude.{ℕ, ◌+◌, ◌≤◌, ◌<◌, false, List, ◌≡◌}
use Rattle.std.proofs.Common.{sym, ◌∙◌}
use Rattle.spec_tests.specs.Rules.{first}
use Rattle.spec_tests.specs.Laws.{or_no, no_lt, eq_yes, eq_no, none as first_none}
use Rattle.spec_rules.specs.Image.{absent, count_at_of, field, signal_width}
use Rattle.spec_rules.specs.Checks.{bad_name, name_taken, bad_reset, bad_register}
use Rattle.check_names.specs.Names.{wrong_name}
use Rattle.check_references.specs.Tests.{pick_yes, pick_no}
use Rattle.check_references.specs.Good.{GoodBit, GoodValue, GoodControl, GoodOptional, is_signal, good_bit, good_value, good_control, all_zero_law, good_optional}
use Rattle.check_drivers.specs.Good.{Undriven, undriven}
use Rattle.check_registers.specs.Register.{bad_rest_of, bad_rest, name_or_rest}

-- a reset that is there: its control, its mode, its value
pub record GoodResetOf (s : List ℕ) (r w : ℕ) : Type 0 where
  pub control : GoodControl s 4 r 8
  pub mode : field s 4 r 10 ≤ 1
  pub value : GoodValue s (field s 4 r 11) w

pub record GoodReset (s : List ℕ) (r w : ℕ) : Type 0 where
  pub none : field s 4 r 8 ≡ absent → (i : ℕ) → i < 3 → field s 4 r (9 + i) ≡ 0
  pub some : (field s 4 r 8 ≡ absent → ⊥) → GoodResetOf s r w

good_reset : (s : List ℕ) (r w : ℕ) → bad_reset s r w ≡ false → GoodReset s r w
unfolding bad_reset
good_reset s r w e = record {
  none = λ h. all_zero_law s 4 r 9 3 (pick_yes _ (eq_yes _ _ h) e);
  some = λ h. let f = or_no (pick_no _ (eq_no _ _ h) e) in let g = or_no f.1 in
      record { control = good_control s 4 r 8 f.0; mode = no_lt _ _ g.0; value = good_value s _ w g.1 };
}

-- record r, whose target is signal p
pub record GoodRegisterOf (s : List ℕ) (r p : ℕ) : Type 0 where
  pub there : p < count_at_of s 0
  pub next : GoodValue s (field s 4 r 3) (signal_width s p)
  pub clock : GoodBit s (field s 4 r 4)
  pub edge : field s 4 r 5 ≤ 1
  pub enable : GoodOptional s 4 r 6
  pub reset : GoodReset s r (signal_width s p)
  pub alone : Undriven s r 0 p

pub good_of : (s : List ℕ) (r p : ℕ) → bad_rest_of s r p ≡ false → GoodRegisterOf s r p
unfolding bad_rest_of
good_of s r p h =
    let a = or_no h in
    let b = or_no a.1 in
    let c = or_no b.1 in
    let d = or_no c.1 in
    let e = or_no d.1 in
    let f = or_no e.1 in
    record {
      there = is_signal s p a.0;
      next = good_value s _ _ b.0;
      clock = good_bit s _ c.0;
      edge = no_lt _ _ d.0;
      enable = good_optional s 4 r 6 e.0;
      reset = good_reset s r _ f.0;
      alone = undriven s r 0 p f.1;
    }

pub record GoodRegister (s : List ℕ) (r : ℕ) : Type 0 where
  pub name : bad_name s 4 r ≡ false
  pub fresh : name_taken s 4 r ≡ false
  pub rest : GoodRegisterOf s r (field s 4 r 2)

pub good_register : (s : List ℕ) (r : ℕ) → bad_register s r ≡ false → GoodRegister s r
unfolding bad_rest wrong_name
good_register s r e =
    let f = or_no (sym (name_or_rest s r) ∙ e) in
    let n = or_no f.0 in
    record { name = n.0; fresh = n.1; rest = good_of s r _ f.1 }

-- the section has no record that breaks a rule
pub good_registers : (s : List ℕ) → first (bad_register s) (count_at_of s 4) ≡ count_at_of s 4 → (r : ℕ) → r < count_at_of s 4 → GoodRegister s r
good_registers s e r h = good_register s r (first_none _ _ e r h)
