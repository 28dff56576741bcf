-- What a signal without a driver tells: `unassigned` of some of its bits, `undriven` of the whole.
use Rattle.std.specs.Prelude.{ℕ, ◌+◌, ◌≤◌, ◌<◌, Bool, true, false, List, ◌⊎◌, ◌≡◌, refl}
use Rattle.std.proofs.Common.{inl, inr}
use Rattle.spec_tests.specs.Rules.{◌<?◌, ◌and◌}
use Rattle.spec_tests.specs.Laws.{or_no, no_lt, no_eq, eq_yes, not_any}
use Rattle.spec_rules.specs.Image.{count_at_of, field, signal_width, first_port, has_second, second_port}
use Rattle.spec_rules.specs.Checks.{is_input, assigned, targeted, read_into, driven}

-- a failed `and` whose first test holds
and_no : {a b : Bool} → (a and b) ≡ false → a ≡ true → b ≡ false
unfolding ◌and◌
and_no h e = rw e at h

-- assignment j drives no bit of the w bits of signal p from at on
abbrev pub Apart : List ℕ → ℕ → ℕ → ℕ → ℕ → Type 0
Apart s j p at w = field s 3 j 0 ≡ p → (at + w ≤ field s 3 j 1) ⊎ (field s 3 j 1 + field s 3 j 2 ≤ at)

pub unassigned : (s : List ℕ) (n p at w : ℕ) → assigned s n p at w ≡ false → (j : ℕ) → j < n → Apart s j p at w
unfolding assigned
unassigned s n p at w e j h q = go (field s 3 j 1 <? at + w) refl (and_no (not_any _ _ e j h) (eq_yes _ _ q))
  where
    go : (t : Bool) → (field s 3 j 1 <? at + w) ≡ t → (field s 3 j 1 <? at + w and at <? field s 3 j 1 + field s 3 j 2) ≡ false → (at + w ≤ field s 3 j 1) ⊎ (field s 3 j 1 + field s 3 j 2 ≤ at)
    go true y f = inr (no_lt _ _ (and_no f y))
    go false y f = inl (no_lt _ _ y)

pub record Undriven (s : List ℕ) (i j p : ℕ) : Type 0 where
  pub no_input_law : field s 0 p 3 ≡ 1 → ⊥
  pub no_assign : (k : ℕ) → k < count_at_of s 3 → Apart s k p 0 (signal_width s p)
  pub no_target : (k : ℕ) → k < i → field s 4 k 2 ≡ p → ⊥
  pub no_first : (k : ℕ) → k < j → field s 5 k (first_port + 1) ≡ p → ⊥
  pub no_second : (k : ℕ) → k < j → field s 5 k has_second ≡ 1 → field s 5 k (second_port + 1) ≡ p → ⊥

pub not_input : (s : List ℕ) (p : ℕ) → is_input s p ≡ false → field s 0 p 3 ≡ 1 → ⊥
unfolding is_input
not_input s p e = no_eq _ _ e

pub undriven : (s : List ℕ) (i j p : ℕ) → driven s i j p ≡ false → Undriven s i j p
unfolding driven targeted read_into
undriven s i j p e =
    let f = or_no (or_no e).1 in
    let g = or_no f.1 in
    record {
      no_input_law = not_input s p (or_no e).0;
      no_assign = unassigned s (count_at_of s 3) p 0 (signal_width s p) f.0;
      no_target = λ k h. no_eq _ _ (not_any _ _ g.0 k h);
      no_first = λ k h. no_eq _ _ (or_no (not_any _ _ g.1 k h)).0;
      no_second = λ k h o. no_eq _ _ (and_no (or_no (not_any _ _ g.1 k h)).1 (eq_yes _ _ o));
    }
