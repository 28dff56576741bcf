-- What an assignment record that breaks no rule tells: `good_assign`.
use Rattle.std.specs.Prelude.{ℕ, ◌+◌, ◌≤◌, ◌<◌, false, List, ◌≡◌}
use Rattle.std.proofs.Common.{⊎_elim, ap, arith}
use Rattle.spec_tests.specs.Rules.{first, sum_to}
use Rattle.spec_tests.specs.Laws.{or_no, no_lt, no_ne, inside, none}
use Rattle.spec_rules.specs.Image.{count_at_of, field, signal_width}
use Rattle.spec_rules.specs.Checks.{bad_assign}
use Rattle.check_references.specs.Good.{GoodValue, is_signal, is_expr}
use Rattle.check_drivers.specs.Bits.{Marks, Marked, marks_assign}
use Rattle.check_drivers.specs.Good.{Apart, unassigned, not_input}
use Rattle.check_assignments.specs.Assign.{bad_assign_of}

-- record r drives w bits of signal p from at on, by expression e
pub record GoodAssignOf (s : List ℕ) (r p at w e : ℕ) : Type 0 where
  pub there : p < count_at_of s 0
  pub least : 1 ≤ w
  pub most : w ≤ 1024
  pub room : at + w ≤ signal_width s p
  pub value : GoodValue s e w
  pub no_input_law : field s 0 p 3 ≡ 1 → ⊥
  pub alone : (j : ℕ) → j < r → Apart s j p at w

abbrev pub GoodAssign : List ℕ → ℕ → Type 0
GoodAssign s r = GoodAssignOf s r (field s 3 r 0) (field s 3 r 1) (field s 3 r 2) (field s 3 r 3)

pub good_of : (s : List ℕ) (r p at w e : ℕ) → bad_assign_of s r p at w e ≡ false → GoodAssignOf s r p at w e
unfolding bad_assign_of
good_of s r p at w e h =
    let a = or_no h in
    let b = or_no a.1 in
    let c = or_no b.1 in
    let d = or_no c.1 in
    let f = or_no d.1 in
    let g = or_no f.1 in
    let i = inside _ _ _ b.0 in
    record {
      there = is_signal s p a.0;
      least = i.0;
      most = i.1;
      room = no_lt _ _ c.0;
      value = record { there = is_expr s e d.0; width = no_ne _ _ f.0 };
      no_input_law = not_input s p g.0;
      alone = unassigned s r p at w g.1;
    }

pub good_assign : (s : List ℕ) (r : ℕ) → bad_assign s r ≡ false → GoodAssign s r
unfolding bad_assign bad_assign_of
good_assign s r e = good_of s r _ _ _ _ e

-- the section has no record that breaks a rule
pub good_assigns : (s : List ℕ) → first (bad_assign s) (count_at_of s 3) ≡ count_at_of s 3 → (r : ℕ) → r < count_at_of s 3 → GoodAssign s r
good_assigns s e r h = good_assign s r (none _ _ e r h)

-- its bits are marked
pub assign_marked : (s : List ℕ) (r p at w e : ℕ) (t t' : List ℕ) → p ≡ field s 3 r 0 → at ≡ field s 3 r 1 → w ≡ field s 3 r 2 → GoodAssignOf s r p at w e → Marked (sum_to (signal_width s) p + at) w t t' → Marks s r 0 0 t → Marks s (r + 1) 0 0 t'
assign_marked s r p at w e t t' i j k g l m = marks_assign s r t t' (rw k at g.least) (rw (i, j, k) at g.room) (rw (i, j, k) at l) m

-- a signal that no assignment drives in any of its bits is the signal of no assignment
pub never_assigned : (s : List ℕ) (j p : ℕ) → GoodAssign s j → Apart s j p 0 (signal_width s p) → field s 3 j 0 ≡ p → ⊥
never_assigned s j p g apart e =
    let room = g.room in
    let same = ap (signal_width s) e in
    ⊎_elim (λ h. omega (arith, g.least)) (λ h. omega (arith, g.least)) (apart e)
