-- After a start, with an index of zeros, the builder's invariant holds. Assumes nothing.
use Rattle.std.specs.Prelude.{◌≡◌, refl, List, [], ℕ, zero, suc, ◌+◌, ◌*◌, length, get_or, drop}
use Rattle.std.proofs.Common.{sym, subst, ◌∙◌, get_or-drop}
use Rattle.std.proofs.lemmas.List.{length-replicate}
use Rattle.spec_model.specs.Words.{Netlist}
use Rattle.spec_model.specs.WordCells.{find_cell}
use Rattle.net_view.specs.Laws.{zeros, empty, Holds}
use Rattle.net_index.specs.Index.{newest, newest_cell, find_newest, Indexed, CellsIndexed, Held}

zero_at : (k i : ℕ) → get_or (zeros k) i 0 ≡ 0
zero_at zero i = refl
zero_at (suc k) zero = refl
zero_at (suc k) (suc i) = zero_at k i

no_gates : (m k : ℕ) → Indexed m [] (zeros k)
unfolding newest
no_gates m k = record { heads = λ h l. zero_at k h; chained = tt }

no_cells : (m j k : ℕ) → CellsIndexed m 0 [] (drop j (zeros k))
unfolding newest_cell find_newest find_cell
no_cells m j k = record { heads = λ h l. get_or-drop j (zeros k) h 0 ∙ zero_at k (j + h); chained = tt; single = λ key w. refl }

pub held_start : (n p : ℕ) (w : List ℕ) → Holds n (empty n p) w → Held n w (zeros (4 * n))
held_start n p w v = record {
  built = v.built;
  sized = length-replicate (4 * n) 0;
  gates = subst (λ (l : Netlist). Indexed n l.nodes (zeros (4 * n))) (sym v.view) (no_gates n (4 * n));
  cells = subst (λ (l : Netlist). CellsIndexed n (length l.nodes) l.records (drop (2 * n) (zeros (4 * n)))) (sym v.view) (no_cells n (2 * n) (4 * n));
}
