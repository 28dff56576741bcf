-- What the shared rules tell where they are kept.
use Rattle.std.specs.Prelude.{ℕ, ◌+◌, ◌≤◌, ◌<◌, false, List, ◌≡◌}
use Rattle.std.proofs.Common.{ap, ◌∙◌, arith}
use Rattle.spec_tests.specs.Laws.{or_no, no_lt, yes_lt, no_ne, eq_yes, eq_no, not_any}
use Rattle.spec_rules.specs.Image.{absent, count_at_of, field, signal_width, expr_width}
use Rattle.spec_rules.specs.Checks.{no_signal, no_expr, bad_bit, bad_control, not_zero, bad_optional, bad_value}
use Rattle.check_references.specs.Tests.{not_no, pick_yes, pick_no}

pub is_signal : (s : List ℕ) (p : ℕ) → no_signal s p ≡ false → p < count_at_of s 0
unfolding no_signal
is_signal s p h = yes_lt p (count_at_of s 0) (not_no h)

pub is_expr : (s : List ℕ) (e : ℕ) → no_expr s e ≡ false → e < count_at_of s 1
unfolding no_expr
is_expr s e h = yes_lt e (count_at_of s 1) (not_no h)

-- signal p is there and 1 wide
pub record GoodBit (s : List ℕ) (p : ℕ) : Type 0 where
  pub there : p < count_at_of s 0
  pub one : signal_width s p ≡ 1

pub good_bit : (s : List ℕ) (p : ℕ) → bad_bit s p ≡ false → GoodBit s p
unfolding bad_bit
good_bit s p e = record { there = is_signal s p (or_no e).0; one = no_ne _ _ (or_no e).1 }

-- expression e is there and w wide
pub record GoodValue (s : List ℕ) (e w : ℕ) : Type 0 where
  pub there : e < count_at_of s 1
  pub width : expr_width s e ≡ w

pub good_value : (s : List ℕ) (e w : ℕ) → bad_value s e w ≡ false → GoodValue s e w
unfolding bad_value
good_value s e w h = record { there = is_expr s e (or_no h).0; width = no_ne _ _ (or_no h).1 }

-- fields f and f + 1 of record r of section k: a 1-bit signal and its polarity
pub record GoodControl (s : List ℕ) (k r f : ℕ) : Type 0 where
  pub bit : GoodBit s (field s k r f)
  pub polarity : field s k r (f + 1) ≤ 1

pub good_control : (s : List ℕ) (k r f : ℕ) → bad_control s k r f ≡ false → GoodControl s k r f
unfolding bad_control
good_control s k r f e = record { bit = good_bit s _ (or_no e).0; polarity = no_lt _ _ (or_no e).1 }

pub all_zero_law : (s : List ℕ) (k r f n : ℕ) → not_zero s k r f n ≡ false → (i : ℕ) → i < n → field s k r (f + i) ≡ 0
unfolding not_zero
all_zero_law s k r f n e i h = no_ne _ _ (not_any _ _ e i h)

pub record GoodOptional (s : List ℕ) (k r f : ℕ) : Type 0 where
  pub none : field s k r f ≡ absent → field s k r (f + 1) ≡ 0
  pub some : (field s k r f ≡ absent → ⊥) → GoodControl s k r f

pub good_optional : (s : List ℕ) (k r f : ℕ) → bad_optional s k r f ≡ false → GoodOptional s k r f
unfolding bad_optional
good_optional s k r f e = record {
  none = λ h. ap (field s k r) (omega arith) ∙ all_zero_law s k r (f + 1) 1 (pick_yes _ (eq_yes _ _ h) e) 0 (omega arith);
  some = λ h. good_control s k r f (pick_no _ (eq_no _ _ h) e);
}
