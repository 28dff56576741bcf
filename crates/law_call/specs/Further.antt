-- A netlist image is read from its own words: what follows them does not matter. Assumes nothing.
use Prim.Native.Nat.{ℕ, ◌+◌, ◌*◌, ◌≤◌, ◌<◌}
use Rattle.std.specs.Prelude.{Bool, List, ◌++◌, ◌≡◌, length}
use Rattle.std.proofs.Math.Bool.{true, false, not}
use Rattle.std.proofs.Math.Path.{refl, ap, fun_ext}
use Rattle.std.proofs.Common.{arith}
use Rattle.std.proofs.Math.ListN.{get_or, take, drop, length-drop, get_or-append}
use Rattle.std.proofs.Math.Seq.{take-append-le, drop-append-le}
use Rattle.spec_tests.specs.Rules.{◌<?◌, ◌≢?◌, ◌or◌, any}
use Rattle.spec_tests.specs.Laws.{yes_lt}
use Rattle.spec_rules.specs.NetlistImage.{node_word, node_at_of, records_of, records_with, not_output, is_output_port, netlist}
use Rattle.scratch_view.specs.Rows.{list_of_agree}

-- the header, the nodes and the list records lie within the words
pub record Whole (ws : List ℕ) : Type 0 where
  pub header : 5 ≤ length ws
  pub nodes : get_or ws 2 0 + 6 * get_or ws 1 0 ≤ length ws
  pub list : get_or ws 4 0 + get_or ws 3 0 ≤ length ws

module _ (ws : List ℕ) (whole : Whole ws) (rest : List ℕ) where
  word_same : (i : ℕ) → i < length ws → get_or (ws ++ rest) i 0 ≡ get_or ws i 0
  word_same i h = get_or-append ws rest 0 i h

  pub header_same : (i : ℕ) → i < 5 → get_or (ws ++ rest) i 0 ≡ get_or ws i 0
  header_same i h = word_same i (omega (arith, whole.header))

  node_word_law : (k f : ℕ) → k < get_or ws 1 0 → f < 6 → node_word (ws ++ rest) k f ≡ node_word ws k f
  unfolding node_word
  node_word_law k f h l = rw (header_same 2 (omega arith)) (word_same _ (omega (arith, whole.nodes)))

  pub node_same : (k : ℕ) → k < get_or ws 1 0 → node_at_of (ws ++ rest) k ≡ node_at_of ws k
  unfolding node_at_of
  node_same k h =
      rw (
        node_word_law k 0 h (omega arith),
        node_word_law k 1 h (omega arith),
        node_word_law k 2 h (omega arith),
        node_word_law k 3 h (omega arith),
        node_word_law k 4 h (omega arith),
        node_word_law k 5 h (omega arith),
      )

  output_same : (k p i : ℕ) → not_output (ws ++ rest) k p i ≡ not_output ws k p i
  unfolding not_output ◌or◌
  output_same k p i = rw (header_same 1 (omega arith)) (go (k <? get_or ws 1 0) refl)
    where
      go : (t : Bool) → (k <? get_or ws 1 0) ≡ t
          → (not t or node_word (ws ++ rest) k 0 ≢? 8 or node_word (ws ++ rest) k 1 ≢? p or node_word (ws ++ rest) k 2 ≢? i)
          ≡ (not t or node_word ws k 0 ≢? 8 or node_word ws k 1 ≢? p or node_word ws k 2 ≢? i)
      go true e =
          let h = yes_lt k (get_or ws 1 0) e in
          rw (node_word_law k 0 h (omega arith), node_word_law k 1 h (omega arith), node_word_law k 2 h (omega arith))
      go false e = refl

  pub port_same : (r : List ℕ) → is_output_port (ws ++ rest) r ≡ is_output_port ws r
  unfolding is_output_port
  port_same r = ap (λ (f : ℕ → Bool). not (any f (get_or r 2 0))) (fun_ext (λ i. output_same (get_or r (3 + i) 0) (get_or r 1 0) i))

  pub records_same : records_of (ws ++ rest) ≡ records_of ws
  unfolding records_of
  records_same =
      let d : drop (get_or ws 4 0) (ws ++ rest) ≡ drop (get_or ws 4 0) ws ++ rest = drop-append-le (get_or ws 4 0) ws rest (omega (arith, whole.list)) in
      let t : take (get_or ws 3 0) (drop (get_or ws 4 0) ws ++ rest) ≡ take (get_or ws 3 0) (drop (get_or ws 4 0) ws)
      = take-append-le (get_or ws 3 0) (drop (get_or ws 4 0) ws) rest (omega (arith, whole.list, length-drop (get_or ws 4 0) ws)) in
      rw (header_same 3 (omega arith), header_same 4 (omega arith), d, t)
