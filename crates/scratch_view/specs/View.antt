-- The scratch of the walk: where its tables lie, the state of the lowering model that its words hold, and when they are laid out for an image.
-- Words: 64 fixed ones (0 the net limit, 1 the signal bits, 2 and 3 where the expression words and the expression bits begin, 4 the flag
-- `resolve_observable_dependencies`), 4 a net for the index, four columns with a word for each signal bit (net + 1, driver, mark, first
-- bits), 8 for each expression (first bit, whether it is lowered whole, six that the tables do not use), one for each expression bit
-- (net + 1).
use Rattle.std.specs.Prelude.{◌≡◌, Bool, true, false, List, [], ℕ, zero, suc, ◌+◌, ◌*◌, ◌≤◌, ◌<◌, length, get_or, take}
use Rattle.std.proofs.Math.Option.{Option, none, some}
use Rattle.spec_tests.specs.Rules.{list_of, sum_to}
use Rattle.spec_rules.specs.Image.{count_at_of, field, signal_width, expr_width, decode}
use Rattle.spec_rules.specs.Checks.{signal_bits, expr_bits}
use Rattle.spec_model.specs.Words.{Netlist}
use Rattle.spec_model.specs.Lowering.{State, state, net_of, cell, mark, driver_of}
use Rattle.scratch_view.specs.Rows.{rows}

-- ---- places: image s, net limit n ----

abbrev pub limit_of : List ℕ → ℕ
limit_of w = get_or w 0 0

abbrev pub signal_column : ℕ → ℕ
signal_column n = 64 + 4 * n

abbrev pub expr_column : List ℕ → ℕ → ℕ
expr_column s n = signal_column n + 4 * signal_bits s

abbrev pub bit_column : List ℕ → ℕ → ℕ
bit_column s n = expr_column s n + 8 * count_at_of s 1

-- bit b of signal p, and of expression e, among all
abbrev pub signal_bit : List ℕ → ℕ → ℕ → ℕ
signal_bit s p b = sum_to (signal_width s) p + b

abbrev pub expr_bit : List ℕ → ℕ → ℕ → ℕ
expr_bit s e b = sum_to (expr_width s) e + b

abbrev pub net_at : List ℕ → ℕ → ℕ → ℕ → ℕ
net_at s n p b = signal_column n + signal_bit s p b

abbrev pub driver_at : List ℕ → ℕ → ℕ → ℕ → ℕ
driver_at s n p b = signal_column n + signal_bits s + signal_bit s p b

abbrev pub mark_at : List ℕ → ℕ → ℕ → ℕ → ℕ
mark_at s n p b = signal_column n + 2 * signal_bits s + signal_bit s p b

abbrev pub first_at : List ℕ → ℕ → ℕ → ℕ
first_at s n p = signal_column n + 3 * signal_bits s + p

-- word k of expression e
abbrev pub expr_at : List ℕ → ℕ → ℕ → ℕ → ℕ
expr_at s n e k = expr_column s n + 8 * e + k

abbrev pub bit_at : List ℕ → ℕ → ℕ → ℕ → ℕ
bit_at s n e b = bit_column s n + expr_bit s e b

-- ---- the state ----

-- the net of a word, which is one more
unfoldable pub known : ℕ → Option ℕ
known zero = none
known (suc x) = some x

unfoldable pub net_word : ℕ → ℕ
net_word x = net_of (known x)

unfoldable pub is_set : ℕ → Bool
is_set zero = false
is_set (suc x) = true

unfoldable pub whole_of : Bool → List ℕ → Option (List ℕ)
whole_of true ns = some ns
whole_of false ns = none

unfoldable pub ranges_of : Bool → List (Option ℕ) → List (Option ℕ)
ranges_of true row = []
ranges_of false row = row

-- expression e is lowered whole
abbrev pub is_whole : List ℕ → ℕ → List ℕ → ℕ → Bool
is_whole s n w e = is_set (get_or w (expr_at s n e 1) 0)

abbrev pub signal_rows : List ℕ → ℕ → List ℕ → List (List (Option ℕ))
signal_rows s n w = rows (signal_width s) (count_at_of s 0) (λ j. known (get_or w (signal_column n + j) 0))

abbrev pub mark_rows : List ℕ → ℕ → List ℕ → List (List Bool)
mark_rows s n w = rows (signal_width s) (count_at_of s 0) (λ j. is_set (get_or w (signal_column n + 2 * signal_bits s + j) 0))

abbrev pub whole_at : List ℕ → ℕ → List ℕ → ℕ → Option (List ℕ)
whole_at s n w e = whole_of (is_whole s n w e) (list_of (expr_width s e) (λ b. net_word (get_or w (bit_at s n e b) 0)))

abbrev pub ranges_at : List ℕ → ℕ → List ℕ → ℕ → List (Option ℕ)
ranges_at s n w e = ranges_of (is_whole s n w e) (list_of (expr_width s e) (λ b. known (get_or w (bit_at s n e b) 0)))

abbrev pub state_at : List ℕ → ℕ → Netlist → List ℕ → State
state_at s n l w = state l (signal_rows s n w) (mark_rows s n w) (list_of (count_at_of s 1) (whole_at s n w)) (list_of (count_at_of s 1) (ranges_at s n w))

-- the state that scratch w holds beside netlist l
abbrev pub state_of : List ℕ → Netlist → List ℕ → State
state_of s l w = state_at s (limit_of w) l w

-- ---- the measure: signal bits without a mark ----

unfoldable pub unset : ℕ → ℕ
unset zero = 1
unset (suc x) = 0

unfoldable pub free_at : List ℕ → ℕ → List ℕ → ℕ
free_at s n w = sum_to (λ j. unset (get_or w (signal_column n + 2 * signal_bits s + j) 0)) (signal_bits s)

abbrev pub free : List ℕ → List ℕ → ℕ
free s w = free_at s (limit_of w) w

-- ---- what a checked image has ----

-- assignment a drives bits that are there, by an expression of its width
pub record Drives (s : List ℕ) (a : ℕ) : Type 0 where
  pub signal : field s 3 a 0 < count_at_of s 0
  pub inside : field s 3 a 1 + field s 3 a 2 ≤ signal_width s (field s 3 a 0)
  pub value : field s 3 a 3 < count_at_of s 1
  pub width : expr_width s (field s 3 a 3) ≡ field s 3 a 2

pub record Sized (s : List ℕ) : Type 0 where
  pub signals : count_at_of s 0 ≤ 512
  pub exprs : count_at_of s 1 ≤ 2048
  pub assigns : count_at_of s 3 ≤ 1024
  pub signal_bits : signal_bits s ≤ 4096
  pub expr_bits : expr_bits s ≤ 32768
  pub signal_some : (p : ℕ) → p < count_at_of s 0 → 1 ≤ signal_width s p
  pub signal_most : (p : ℕ) → p < count_at_of s 0 → signal_width s p ≤ 1024
  pub expr_some : (e : ℕ) → e < count_at_of s 1 → 1 ≤ expr_width s e
  pub expr_most : (e : ℕ) → e < count_at_of s 1 → expr_width s e ≤ 1024
  pub drives : (a : ℕ) → a < count_at_of s 3 → Drives s a

-- ---- the layout ----

unfoldable pub driver_word : Option (ℕ × ℕ) → ℕ
driver_word none = 0
driver_word (some d) = (d.0 + 1) * 1024 + d.1

-- scratch w is laid out for image s and net limit n
pub record LaidAt (s : List ℕ) (n : ℕ) (w : List ℕ) : Type 0 where
  pub image : Sized s
  pub limited : n ≤ 65535
  pub long : length w ≡ bit_column s n + expr_bits s
  pub limit : get_or w 0 0 ≡ n
  pub bits : get_or w 1 0 ≡ signal_bits s
  pub exprs : get_or w 2 0 ≡ expr_column s n
  pub nets : get_or w 3 0 ≡ bit_column s n
  pub firsts : (p : ℕ) → p < count_at_of s 0 → get_or w (first_at s n p) 0 ≡ sum_to (signal_width s) p
  pub starts : (e : ℕ) → e < count_at_of s 1 → get_or w (expr_at s n e 0) 0 ≡ sum_to (expr_width s) e
  pub drivers : (p b : ℕ) → p < count_at_of s 0 → b < signal_width s p → get_or w (driver_at s n p b) 0 ≡ driver_word (driver_of (decode s) p b)
  pub signal_nets : (j : ℕ) → j < signal_bits s → get_or w (signal_column n + j) 0 ≤ 65535
  pub expr_nets : (j : ℕ) → j < expr_bits s → get_or w (bit_column s n + j) 0 ≤ 65535
  pub wholes : (e b : ℕ) → e < count_at_of s 1 → b < expr_width s e → is_whole s n w e ≡ true → 0 < get_or w (bit_at s n e b) 0

abbrev pub Laid : List ℕ → List ℕ → Type 0
Laid s w = LaidAt s (limit_of w) w

-- ---- what a write does ----

-- w becomes w': the state by op; fixed words, index and the six other words of each expression stay
pub record Writes (op : State → State) (s w w' : List ℕ) : Type 0 where
  pub says : (l : Netlist) → state_of s l w' ≡ op (state_of s l w)
  pub laid : Laid s w'
  pub limit : limit_of w' ≡ limit_of w
  pub fixed : take (64 + 4 * limit_of w) w' ≡ take (64 + 4 * limit_of w) w
  pub plan : (e k : ℕ) → e < count_at_of s 1 → 1 < k → k < 8 → get_or w' (expr_at s (limit_of w) e k) 0 ≡ get_or w (expr_at s (limit_of w) e k) 0
  pub fewer : free s w' ≤ free s w

-- bit b of signal p is marked: where it was not, one bit less is free
pub record Marks (s : List ℕ) (p b : ℕ) (w w' : List ℕ) : Type 0 where
  pub writes : Writes (λ st. mark st p b) s w w'
  pub falls : cell false (mark_rows s (limit_of w) w) p b ≡ false → suc (free s w') ≡ free s w
