-- The builder's invariant after one node more. Assumes nothing.
use Rattle.std.specs.Prelude.{◌≡◌, true, false, List, [], ◌∷◌, reverse, ℕ, suc, ◌+◌, ◌*◌, ◌<◌, length, get_or, set, drop}
use Rattle.std.proofs.Common.{sym, subst, ◌∙◌, arith, length-set, drop-set-lt}
use Rattle.spec_model.specs.Words.{Node, Netlist}
use Rattle.net_view.specs.View.{netlist_of}
use Rattle.net_view.specs.Laws.{with_node, Holds}
use Rattle.net_index.specs.Index.{hash_node, is_gate, Indexed, CellsChained, CellsIndexed, Held}
use Rattle.net_index.specs.Laws.{hash_less, indexed_other, indexed_push, linked}

cells_chained_grow : (m k : ℕ) (rs : List (List ℕ)) (idx : List ℕ) → CellsChained m k rs idx → CellsChained m (suc k) rs idx
cells_chained_grow m k [] idx ch = tt
cells_chained_grow m k (r ∷ rs) idx ch = (
  (λ e. let c = ch.0 e in record { whole = c.whole; below = omega (arith, c.below); next = c.next }),
  cells_chained_grow m k rs idx ch.1,
)

cells_grow : (m k : ℕ) (rs : List (List ℕ)) (idx : List ℕ) → CellsIndexed m k rs idx → CellsIndexed m (suc k) rs idx
cells_grow m k rs idx c = record { heads = c.heads; chained = cells_chained_grow m k (reverse rs) idx c.chained; single = c.single }

module _ (n : ℕ) (w idx w' : List ℕ) (x : Node) (h : Held n w idx) (v : Holds n (with_node x (netlist_of n w)) w') where
  -- a node that is no gate
  pub held_other : is_gate x ≡ false → Held n w' idx
  held_other e = record {
    built = v.built;
    sized = h.sized;
    gates = subst (λ (l : Netlist). Indexed n l.nodes idx) (sym v.view) (indexed_other n (netlist_of n w).nodes idx x e h.gates);
    cells = subst (λ (l : Netlist). CellsIndexed n (length l.nodes) l.records (drop (2 * n) idx)) (sym v.view)
        (cells_grow n (length (netlist_of n w).nodes) (netlist_of n w).records (drop (2 * n) idx) h.cells);
  }

  -- a gate, put into the index
  pub held_gate : is_gate x ≡ true → length (netlist_of n w).nodes < n → Held n w' (linked n (length (netlist_of n w).nodes) (hash_node n x) idx)
  held_gate e few =
      let k = length (netlist_of n w).nodes in
      let less = hash_less n x h.built.some in
      let d : drop (2 * n) (linked n k (hash_node n x) idx) ≡ drop (2 * n) idx =
      drop-set-lt (2 * n) (set idx (n + k) (get_or idx (hash_node n x) 0)) (hash_node n x) (suc k) (omega arith)
      ∙ drop-set-lt (2 * n) idx (n + k) (get_or idx (hash_node n x) 0) (omega arith) in
      record {
        built = v.built;
        sized = rw (length-set, length-set) h.sized;
        gates = subst (λ (l : Netlist). Indexed n l.nodes (linked n k (hash_node n x) idx)) (sym v.view)
            (indexed_push n (netlist_of n w).nodes idx x e h.built.some (omega (arith, h.sized)) h.gates);
        cells = subst (λ (l : Netlist). CellsIndexed n (length l.nodes) l.records (drop (2 * n) (linked n k (hash_node n x) idx))) (sym v.view)
            (rw d (cells_grow n k (netlist_of n w).records (drop (2 * n) idx) h.cells));
      }
