-- The length of a list record by its first word, a memory's part by part.
use Rattle.std.specs.Prelude.{ℕ, ◌+◌, ◌*◌, ◌<◌, List, ◌≡◌, refl, length, drop, get_or}
use Rattle.std.proofs.Common.{arith}
use Rattle.spec_tests.specs.Rules.{◌≡?◌, pick}
use Rattle.spec_tests.specs.Laws.{eq_no, pick_skip}
use Rattle.spec_rules.specs.NetlistImage.{port_length, record_length}

unfoldable pub second_length : List ℕ → List ℕ → ℕ
second_length l p = pick (get_or l 5 0 ≡? 2) (port_length (drop (port_length p) p)) 0

unfoldable pub memory_length : List ℕ → ℕ
memory_length l = 6 + port_length (drop 6 l) + second_length l (drop 6 l)

-- the length by the record's first word
unfoldable pub length_by : List ℕ → ℕ → ℕ
length_by l k =
    pick (k ≡? 0) (3 + get_or l 2 0) (pick (k ≡? 1) 13 (pick (k ≡? 2) (memory_length l) (pick (k ≡? 3) (4 + 3 * get_or l 2 0) (pick (k ≡? 4) (4 + 2 * get_or l 2 0) (length l)))))

pub record_length_law : (l : List ℕ) → record_length l ≡ length_by l (get_or l 0 0)
unfolding record_length length_by memory_length second_length
record_length_law l = refl

pub length_other : (l : List ℕ) (k : ℕ) → 4 < k → length l ≡ length_by l k
unfolding length_by
length_other l k h =
    pick_skip _ (eq_no k 0 (λ e. omega arith)) (pick_skip _ (eq_no k 1 (λ e. omega arith)) (pick_skip _ (eq_no k 2 (λ e. omega arith)) (pick_skip _ (eq_no k 3 (λ e. omega arith)) (pick_skip _ (eq_no k 4 (λ e. omega arith)) refl))))
