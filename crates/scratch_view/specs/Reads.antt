-- What the tables of the scratch read as in the lowering model's state. Assumes nothing.
use Rattle.std.specs.Prelude.{◌≡◌, Bool, ℕ, zero, suc, ◌+◌, ◌*◌, ◌≤◌, ◌<◌, take, drop}
use Rattle.std.proofs.Math.Path.{refl, ap, ap₂}
use Rattle.std.proofs.Common.{◌∙◌}
use Rattle.std.proofs.Math.Bool.{true, false}
use mathlib.Core.List.{List, ◌∷◌, map}
use Rattle.std.proofs.Math.Option.{Option, none}
use native.Mathlib.Omega.{arith}
use Rattle.std.proofs.Math.ListN.{get_or}
use Rattle.spec_tests.specs.Rules.{each, list_of}
use Rattle.spec_rules.specs.Image.{count_at_of, signal_width, expr_width}
use Rattle.spec_rules.specs.Checks.{signal_bits}
use Rattle.spec_model.specs.Words.{Netlist, absent}
use Rattle.spec_model.specs.Builder.{from}
use Rattle.spec_model.specs.Lowering as M
use Rattle.spec_model.specs.Lowering.{net_of, cell}
use Rattle.scratch_view.specs.Rows.{each_at, length_each, list_of_agree, at_list_of, is_list_of, map_list_of, part_list_of, cell_rows}
use Rattle.scratch_view.specs.View.{signal_column, net_at, mark_at, bit_at, known, net_word, is_set, is_whole, state_at}
use Rattle.scratch_view.specs.Laws.{read_whole, read_ranges, whole_none, whole_some, ranges_there}

-- ---- signals ----

module _ (s : List ℕ) (n : ℕ) (l : Netlist) (w : List ℕ) (p : ℕ) (u : p < count_at_of s 0) where
  pub read_signal : (b : ℕ) → b < signal_width s p → M.signal_bit (state_at s n l w) p b ≡ known (get_or w (net_at s n p b) 0)
  unfolding M.signal_bit
  read_signal b v = cell_rows (signal_width s) (count_at_of s 0) (λ j. known (get_or w (signal_column n + j) 0)) none p b u v

  pub read_mark : (b : ℕ) → b < signal_width s p → cell false (state_at s n l w).resolving p b ≡ is_set (get_or w (mark_at s n p b) 0)
  read_mark b v = cell_rows (signal_width s) (count_at_of s 0) (λ j. is_set (get_or w (signal_column n + 2 * signal_bits s + j) 0)) false p b u v

  read_net_law : (b : ℕ) → b < signal_width s p → M.signal_net (state_at s n l w) p b ≡ net_word (get_or w (net_at s n p b) 0)
  unfolding M.signal_net net_word
  read_net_law b v = ap net_of (read_signal b v)

from_list : (b k : ℕ) → from b k ≡ list_of k (λ i. b + i)
unfolding from each
from_list b k = go b k ∙ is_list_of 0 k (λ i. b + i) (each (λ i. i) b k) (length_each (λ i. i) b k) (λ j u. each_at (λ i. i) b k j 0 u)
  where
    go : (b k : ℕ) → from b k ≡ each (λ i. i) b k
    go b zero = refl
    go b (suc k) = ap (λ (xs : List ℕ). b ∷ xs) (go (suc b) k)

pub read_signals : (s : List ℕ) (n : ℕ) (l : Netlist) (w : List ℕ) (p lsb k : ℕ) → p < count_at_of s 0 → lsb + k ≤ signal_width s p
    → M.signal_nets (state_at s n l w) p lsb k ≡ list_of k (λ i. net_word (get_or w (net_at s n p lsb + i) 0))
unfolding M.signal_nets
read_signals s n l w p lsb k u v =
    ap (map (M.signal_net (state_at s n l w) p)) (from_list lsb k)
    ∙ map_list_of (M.signal_net (state_at s n l w) p) k (λ i. lsb + i)
    ∙ list_of_agree k (λ i. M.signal_net (state_at s n l w) p (lsb + i)) (λ i. net_word (get_or w (net_at s n p lsb + i) 0))
    (λ i c. let m : net_at s n p (lsb + i) ≡ net_at s n p lsb + i = omega arith in
    read_net_law s n l w p u (lsb + i) (omega arith) ∙ ap (λ (j : ℕ). net_word (get_or w j 0)) m)

-- ---- expressions ----

module _ (s : List ℕ) (n : ℕ) (l : Netlist) (w : List ℕ) (e : ℕ) (u : e < count_at_of s 1) where
  part_of : {A : Type 0} (d : A) (f : ℕ → A) (lsb k : ℕ) → lsb + k ≤ expr_width s e
      → take k (drop lsb (list_of (expr_width s e) (λ b. f (get_or w (bit_at s n e b) 0)))) ≡ list_of k (λ i. f (get_or w (bit_at s n e lsb + i) 0))
  part_of d f lsb k v =
      part_list_of d (expr_width s e) (λ b. f (get_or w (bit_at s n e b) 0)) lsb k v
      ∙ list_of_agree k (λ i. f (get_or w (bit_at s n e (lsb + i)) 0)) (λ i. f (get_or w (bit_at s n e lsb + i) 0))
      (λ i c. let m : bit_at s n e (lsb + i) ≡ bit_at s n e lsb + i = omega arith in ap (λ (j : ℕ). f (get_or w j 0)) m)

  -- a range, lowered whole or by ranges
  pub read_range : (lsb k : ℕ) → lsb + k ≤ expr_width s e → M.range_nets (state_at s n l w) e lsb k ≡ list_of k (λ i. net_word (get_or w (bit_at s n e lsb + i) 0))
  unfolding M.range_nets net_word
  read_range lsb k v = go (is_whole s n w e) refl
    where
      go : (t : Bool) → is_whole s n w e ≡ t → M.range_by (M.whole (state_at s n l w) e) (state_at s n l w) e lsb k ≡ list_of k (λ i. net_word (get_or w (bit_at s n e lsb + i) 0))
      go true q =
          ap (λ (o : Option (List ℕ)). M.range_by o (state_at s n l w) e lsb k) (read_whole s n l w e u ∙ whole_some s n w e q)
          ∙ part_of 0 net_word lsb k v
      go false q =
          ap (λ (o : Option (List ℕ)). M.range_by o (state_at s n l w) e lsb k) (read_whole s n l w e u ∙ whole_none s n w e q)
          ∙ ap (λ (r : List (Option ℕ)). map net_of (take k (drop lsb r))) (read_ranges s n w e u ∙ ranges_there s n w e q)
          ∙ ap (map net_of) (part_of none known lsb k v)
          ∙ map_list_of net_of k (λ i. known (get_or w (bit_at s n e lsb + i) 0))

  -- all of a whole expression
  pub whole_nets_law : is_whole s n w e ≡ true → M.whole_nets (state_at s n l w) e ≡ list_of (expr_width s e) (λ i. net_word (get_or w (bit_at s n e 0 + i) 0))
  unfolding M.whole_nets
  whole_nets_law q =
      ap M.nets_of (read_whole s n l w e u ∙ whole_some s n w e q)
      ∙ list_of_agree (expr_width s e) (λ b. net_word (get_or w (bit_at s n e b) 0)) (λ i. net_word (get_or w (bit_at s n e 0 + i) 0))
      (λ i c. let m : bit_at s n e i ≡ bit_at s n e 0 + i = omega arith in ap (λ (j : ℕ). net_word (get_or w j 0)) m)

  pub whole_net_law : (b : ℕ) → b < expr_width s e → is_whole s n w e ≡ true → M.whole_net (state_at s n l w) e b ≡ net_word (get_or w (bit_at s n e b) 0)
  unfolding M.whole_net
  whole_net_law b v q =
      let m : bit_at s n e 0 + b ≡ bit_at s n e b = omega arith in
      ap (λ (xs : List ℕ). get_or xs b absent) (whole_nets_law q)
      ∙ at_list_of (expr_width s e) (λ i. net_word (get_or w (bit_at s n e 0 + i) 0)) b absent v
      ∙ ap (λ (j : ℕ). net_word (get_or w j 0)) m

  -- whether a range is known
  pub known_whole : (lsb k : ℕ) → is_whole s n w e ≡ true → M.range_known (state_at s n l w) e lsb k ≡ true
  unfolding M.range_known
  known_whole lsb k q =
      ap (λ (o : Option (List ℕ)). M.known_by o (M.range_row (state_at s n l w) e lsb k)) (read_whole s n l w e u ∙ whole_some s n w e q)

  pub known_range : (lsb k : ℕ) → lsb + k ≤ expr_width s e → is_whole s n w e ≡ false
      → M.range_known (state_at s n l w) e lsb k ≡ M.all_some (list_of k (λ i. known (get_or w (bit_at s n e lsb + i) 0)))
  unfolding M.range_known
  known_range lsb k v q =
      ap₂ (λ (o : Option (List ℕ)) (r : List (Option ℕ)). M.known_by o (take k (drop lsb r))) (read_whole s n l w e u ∙ whole_none s n w e q)
      (read_ranges s n w e u ∙ ranges_there s n w e q)
      ∙ ap M.all_some (part_of none known lsb k v)
