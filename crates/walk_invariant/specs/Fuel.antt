-- The model's fuel is more than any need of an image costs. Assumes nothing.
use Rattle.std.specs.Prelude.{◌≡◌, List, ℕ, zero, suc, ◌+◌, ◌*◌, ◌≤◌, ◌<◌, get_or}
use Rattle.std.proofs.Common.{mul-le-mul_right, suc-mul, arith}
use Rattle.spec_tests.specs.Rules.{sum_to}
use Rattle.spec_rules.specs.Image.{count_at_of, decode}
use Rattle.spec_rules.specs.Checks.{signal_bits}
use Rattle.spec_model.specs.Lowering.{Need, Bit, Whole, Range, plenty}
use Rattle.scratch_view.specs.View.{limit_of, signal_column, unset, free_at, free}
use Rattle.scratch_view.specs.Bounds.{expr_count, signal_sum}
use Rattle.walk_view.specs.View.{rank_of, cost_of, There}

unset_most : (x : ℕ) → unset x ≤ 1
unfolding unset
unset_most zero = omega arith
unset_most (suc x) = omega arith

sum_most : (f : ℕ → ℕ) (n : ℕ) → ((j : ℕ) → f j ≤ 1) → sum_to f n ≤ n
unfolding sum_to
sum_most f zero h = omega arith
sum_most f (suc n) h = omega (arith, sum_most f n h, h n)

-- no more bits are unmarked than there are
pub free_most : (s w : List ℕ) → free s w ≤ signal_bits s
unfolding free_at
free_most s w = sum_most _ (signal_bits s) (λ j. unset_most (get_or w (signal_column (limit_of w) + 2 * signal_bits s + j) 0))

rank_below : (s : List ℕ) (n : Need) → There s n → rank_of n < 2 * count_at_of s 1 + 1
rank_below s (Bit p b) h = omega arith
rank_below s (Whole e) h = omega arith
rank_below s (Range e lsb k) h = omega (arith, h.0)

pub cost_enough : (s w : List ℕ) (n : Need) → There s n → cost_of s w n < plenty (decode s)
unfolding plenty
cost_enough s w n h =
    let c = 2 * count_at_of s 1 + 1 in
    let m : free s w * c ≤ signal_bits s * c = mul-le-mul_right c (free_most s w) in
    let r : rank_of n < c = rank_below s n h in
    let q : suc (signal_bits s) * c ≡ signal_bits s * c + c = suc-mul (signal_bits s) c in
    let o : signal_bits s + 1 ≡ suc (signal_bits s) = omega arith in
    rw (expr_count s, signal_sum s, o, q) (omega arith)
