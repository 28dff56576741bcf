-- An image that refusals 3 and 4 let pass has the sizes that the tables need. Assumes nothing.
use Rattle.std.specs.Prelude.{◌≡◌, refl, Bool, true, false, not, List, ℕ, zero, suc, ◌+◌, ◌-◌, ◌≤◌, ◌<◌, length}
use Rattle.std.proofs.Common.{subst, true≢false, add-one, arith}
use Rattle.spec_tests.specs.Rules.{◌<?◌, ◌≡?◌, pick, first, sum_to, Answer, Fine, Refused, and_then}
use Rattle.spec_tests.specs.Laws.{or_no, no_lt, no_ne, yes_lt, inside, first_most, none, sum_none}
use Rattle.spec_rules.specs.Image.{most_of, count_at_of, signal_width, expr_width}
use Rattle.spec_rules.specs.Checks.{header, first_field, wrong_field, wrong_count, bad_signal, bad_expr, bad_assign, no_signal, no_expr, section, records, signal_bits, expr_bits}
use Rattle.scratch_view.specs.View.{Drives, Sized}

never : (n a b : ℕ) → Refused n a b ≡ Fine → ⊥
never n a b e = let z : ◌≡◌ {A = ℕ} 0 1 = cc in omega arith

both_fine : (a b : Answer) → and_then a b ≡ Fine → (a ≡ Fine) × (b ≡ Fine)
unfolding and_then
both_fine Fine b e = (refl, e)
both_fine (Refused n x y) b e = absurd (never n x y e)

-- a test that picks a refusal failed
missed : (t : Bool) (n a b : ℕ) → pick t (Refused n a b) Fine ≡ Fine → t ≡ false
unfolding pick
missed true n a b e = absurd (never n a b e)
missed false n a b e = refl

passes : (s : List ℕ) (k : ℕ) (bad : ℕ → Bool) → section s k bad ≡ Fine → (r : ℕ) → r < count_at_of s k → bad r ≡ false
unfolding section
passes s k bad e r u =
    let l : count_at_of s k ≤ first bad (count_at_of s k) = no_lt (first bad (count_at_of s k)) (count_at_of s k) (missed _ 4 k (first bad (count_at_of s k)) e) in
    none bad (count_at_of s k) (omega (arith, first_most bad (count_at_of s k))) r u

found_late : (t : Bool) (n m : ℕ) → 0 < m → m ≤ pick t 0 n → m ≤ n
unfolding pick
found_late true n m h l = absurd (omega arith)
found_late false n m h l = l

fields_right : (s : List ℕ) → header s ≡ Fine → (i : ℕ) → i < 16 → wrong_field s i ≡ false
unfolding header first_field
fields_right s e i u =
    let l : 16 ≤ first (wrong_field s) 16 = found_late (length s <? 64) (first (wrong_field s) 16) 16 (omega arith) (no_lt _ 16 (missed _ 3 _ 0 e)) in
    none (wrong_field s) 16 (omega (arith, first_most (wrong_field s) 16)) i u

counted : (s : List ℕ) (k : ℕ) → wrong_count s k ≡ false → count_at_of s k ≤ most_of k
unfolding wrong_count
counted s k e = no_lt (most_of k) (count_at_of s k) (or_no e).0

-- the whole sum, from the sum up to each record
summed : (f : ℕ → ℕ) (n m : ℕ) → ((r : ℕ) → r < n → sum_to f (r + 1) ≤ m) → sum_to f n ≤ m
summed f zero m h = omega (arith, sum_none f)
summed f (suc n) m h = subst (λ (k : ℕ). sum_to f k ≤ m) (add-one n) (h n (omega arith))

not_no : (b : Bool) → not b ≡ false → b ≡ true
not_no true e = refl
not_no false e = absurd (true≢false e)

drives : (s : List ℕ) (a : ℕ) → bad_assign s a ≡ false → Drives s a
unfolding bad_assign no_signal no_expr
drives s a e = record {
  signal = yes_lt _ _ (not_no _ (or_no e).0);
  inside = no_lt _ _ (or_no (or_no (or_no e).1).1).0;
  value = yes_lt _ _ (not_no _ (or_no (or_no (or_no (or_no e).1).1).1).0);
  width = no_ne _ _ (or_no (or_no (or_no (or_no (or_no e).1).1).1).1).0;
}

signal_right : (s : List ℕ) (r : ℕ) → bad_signal s r ≡ false → ((1 ≤ signal_width s r) × (signal_width s r ≤ 1024)) × (sum_to (signal_width s) (r + 1) ≤ 4096)
unfolding bad_signal
signal_right s r e =
    let w = (or_no (or_no e).1).1 in
    (inside (signal_width s r) 1 1024 (or_no w).0, no_lt 4096 (sum_to (signal_width s) (r + 1)) (or_no (or_no w).1).1)

expr_right : (s : List ℕ) (r : ℕ) → bad_expr s r ≡ false → ((1 ≤ expr_width s r) × (expr_width s r ≤ 1024)) × (sum_to (expr_width s) (r + 1) ≤ 32768)
unfolding bad_expr
expr_right s r e = (inside (expr_width s r) 1 1024 (or_no e).0, no_lt 32768 (sum_to (expr_width s) (r + 1)) (or_no (or_no e).1).0)

pub sized : (s : List ℕ) → header s ≡ Fine → records s ≡ Fine → Sized s
unfolding records wrong_field signal_bits expr_bits most_of pick ◌≡?◌
sized s h r =
    let a = both_fine _ _ r in
    let b = both_fine _ _ a.1 in
    let c = both_fine _ _ b.1 in
    let g : (p : ℕ) → p < count_at_of s 0 → ((1 ≤ signal_width s p) × (signal_width s p ≤ 1024)) × (sum_to (signal_width s) (p + 1) ≤ 4096) =
    λ p u. signal_right s p (passes s 0 (bad_signal s) a.0 p u) in
    let x : (e : ℕ) → e < count_at_of s 1 → ((1 ≤ expr_width s e) × (expr_width s e ≤ 1024)) × (sum_to (expr_width s) (e + 1) ≤ 32768) =
    λ e u. expr_right s e (passes s 1 (bad_expr s) b.0 e u) in
    record {
      signals = counted s 0 (fields_right s h 2 (omega arith));
      exprs = counted s 1 (fields_right s h 4 (omega arith));
      assigns = counted s 3 (fields_right s h 8 (omega arith));
      signal_bits = summed (signal_width s) (count_at_of s 0) 4096 (λ p u. (g p u).1);
      expr_bits = summed (expr_width s) (count_at_of s 1) 32768 (λ e u. (x e u).1);
      signal_some = λ p u. (g p u).0.0;
      signal_most = λ p u. (g p u).0.1;
      expr_some = λ e u. (x e u).0.0;
      expr_most = λ e u. (x e u).0.1;
      drives = λ i u. drives s i (passes s 3 (bad_assign s) c.0 i u);
    }
