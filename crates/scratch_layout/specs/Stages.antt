-- The steps in which the scratch is laid out, and the layout at the start of the walk.
use Rattle.std.specs.Prelude.{◌≡◌, Bool, List, [], ℕ, ◌+◌, ◌≤◌, ◌<◌, length, get_or}
use Rattle.spec_tests.specs.Rules.{sum_to}
use Rattle.spec_rules.specs.Image.{count_at_of, signal_width, expr_width, decode}
use Rattle.spec_rules.specs.Checks.{signal_bits, expr_bits}
use Rattle.spec_model.specs.Lowering.{driver_of, start}
use Rattle.scratch_view.specs.View.{signal_column, expr_column, bit_column, driver_at, first_at, expr_at, is_set, state_of, free, driver_word, Sized, Laid}

-- the fixed words stand
pub record HeadedAt (s : List ℕ) (n : ℕ) (w : List ℕ) : Type 0 where
  pub image : Sized s
  pub limited : n ≤ 65535
  pub long : length w ≡ bit_column s n + expr_bits s
  pub limit : get_or w 0 0 ≡ n
  pub bits : get_or w 1 0 ≡ signal_bits s
  pub exprs : get_or w 2 0 ≡ expr_column s n
  pub nets : get_or w 3 0 ≡ bit_column s n

-- all other words are 0
pub record Fixed (s : List ℕ) (n : ℕ) (ob : Bool) (w : List ℕ) : Type 0 where
  pub headed : HeadedAt s n w
  pub flag : is_set (get_or w 4 0) ≡ ob
  pub rest : (j : ℕ) → 4 < j → get_or w j 0 ≡ 0

-- the first bits of the signals stand
pub record FirstsAt (s : List ℕ) (n : ℕ) (w : List ℕ) : Type 0 where
  pub headed : HeadedAt s n w
  pub firsts : (p : ℕ) → p < count_at_of s 0 → get_or w (first_at s n p) 0 ≡ sum_to (signal_width s) p

-- each expression's first bit is stored
pub record Starts (s : List ℕ) (n : ℕ) (w w' : List ℕ) : Type 0 where
  pub long : length w' ≡ length w
  pub starts : (e : ℕ) → e < count_at_of s 1 → get_or w' (expr_at s n e 0) 0 ≡ sum_to (expr_width s) e
  pub other : (j : ℕ) → ((e : ℕ) → e < count_at_of s 1 → j ≡ expr_at s n e 0 → ⊥) → get_or w' j 0 ≡ get_or w j 0

-- each signal bit's driver is stored
pub record Indexed (s : List ℕ) (n : ℕ) (w w' : List ℕ) : Type 0 where
  pub long : length w' ≡ length w
  pub drivers : (p b : ℕ) → p < count_at_of s 0 → b < signal_width s p → get_or w' (driver_at s n p b) 0 ≡ driver_word (driver_of (decode s) p b)
  pub other : (j : ℕ) → ((i : ℕ) → i < signal_bits s → j ≡ signal_column n + signal_bits s + i → ⊥) → get_or w' j 0 ≡ get_or w j 0

-- the walk can start: the state is the model's, no bit is marked, and the index is empty
pub record Started (s : List ℕ) (n : ℕ) (ob : Bool) (w : List ℕ) : Type 0 where
  pub laid : Laid s w
  pub limit : get_or w 0 0 ≡ n
  pub flag : is_set (get_or w 4 0) ≡ ob
  pub state : (p : ℕ) → state_of s (record { max_nets = n; max_list = p; nodes = []; records = [] }) w ≡ start (decode s) n p
  pub free : free s w ≡ signal_bits s
  pub index : (j : ℕ) → 4 < j → j < signal_column n → get_or w j 0 ≡ 0
