-- What is proved of specs/Cells: Arithmetic and comparison cells made again: a cell that was found, or made, is found; one that is folded is folded to the same constants,
-- since no cell that is made begins with its key. Assumes nothing.
use Rattle.std.specs.Prelude.{◌≡◌, refl, Bool, true, false, ℕ, ◌≤◌, length, drop}
use Rattle.std.proofs.Common.{sym, ap, subst, ◌∙◌, arith, drop_at}
use mathlib.Core.List.{List, ◌++◌, map}
use Rattle.std.proofs.Math.Option.{Option, none, some}
use Rattle.spec_rules.specs.NetlistImage as N
use Rattle.spec_rules.specs.NetlistImage.{arithmetic_of}
use Rattle.spec_model.specs.Words as W
use Rattle.spec_model.specs.Words.{Node, source, Netlist, arithmetic_key, comparison_key}
use Rattle.spec_model.specs.Builder.{refused, done, Made, or_made, each, from, add_nodes, add_recorded, add_constant, ArithmeticOp, ComparisonOp, arithmetic_word, comparison_word, fold_constant_arithmetic, add_arithmetic, add_comparison}
use Rattle.spec_model.specs.WordCells.{begins, find_cell, arithmetic, comparison}
use Rattle.net_index.specs.CellLaws.{begins_self, snoc_new}
use Rattle.law_nets.specs.Sound.{count, CarryBelow, Sound}
use Rattle.law_nets.specs.Run.{Meets, Limit}
use Rattle.law_gates.specs.Added.{with_nodes, nodes_limits, nodes_added, Recorded, recorded}
use Rattle.law_cells.specs.Records.{arithmetic_of_law}
use Rattle.law_cells.specs.Cells.{begins_is}
use Rattle.law_repeats.specs.Again.{Looked, fold_grew, cell_grew, stays_refl, Repeats, Again, again_as}
use Rattle.law_repeats.specs.Added.{Other, other_kind, keeps_done, keeps_recorded}
use Rattle.law_repeats.proofs.Added.{keeps_nodes}
use Rattle.law_repeats.proofs.Gates.{again_constants}
use Rattle.law_repeats.specs.Cells.{carry_low, fold_any, fold_carry}

-- ---- a cell that is looked for, or made by g ----

module _ (key : List ℕ) (g : Netlist → Made (List ℕ)) (l : Netlist) where
  abbrev call : Netlist → Made (List ℕ)
  call l' = or_made (find_cell key l'.records) l' (g l')

  hit : (ns : List ℕ) (l'' : Netlist) → find_cell key l''.records ≡ some ns → call l'' ≡ done (ns, l'')
  hit ns l'' e = ap (λ (o : Option (List ℕ)). or_made o l'' (g l'')) e

  again_found : (find_cell key l.records ≡ none → Again call l) → Again call l
  again_found f = go (find_cell key l.records) refl
    where
      go : (o : Option (List ℕ)) → find_cell key l.records ≡ o → Again call l
      go none e = f e
      go (some ns) e = record { again = rw e (stays_refl l, λ l'' s. hit ns l'' (cell_grew s.grew key ns e)) }

  -- of nodes x 0, x 1, .., w of them
  again_made : (x : ℕ → Node) (w : ℕ) → count l ≤ l.max_nets → ((i : ℕ) → Looked (x i) → ⊥) → ((ns : List ℕ) → Other l (key ++ ns)) → find_cell key l.records ≡ none
      → g l ≡ add_recorded key (add_nodes x 0 w l) → Again call l
  again_made x w few plain other n e = record { again = rw (n, e) (go (add_recorded key (add_nodes x 0 w l)) refl) }
    where
      xs : List Node
      xs = map x (from 0 w)

      made : (ns : List ℕ) (l' : Netlist) → Recorded key xs l ns l' → find_cell key l'.records ≡ some ns
      made ns l' a =
          ap (λ (k : Netlist). find_cell key k.records) a.then
          ∙ snoc_new key (with_nodes xs l).records (key ++ ns) (ap (find_cell key) (nodes_limits xs l).2 ∙ n) (begins_self key ns)
          ∙ ap some (drop_at key ns (length key) refl)

      go : (o : Made (List ℕ)) → add_recorded key (add_nodes x 0 w l) ≡ o → Repeats call l o
      go (refused m y z) q = tt
      go (done r) q =
          let a = subst (Meets Limit (λ (p : List ℕ × Netlist). Recorded key xs l p.0 p.1)) q (recorded key xs l (add_nodes x 0 w l) (nodes_added x 0 w l few)) in
          (keeps_done _ (keeps_recorded key l _ other (keeps_nodes x plain 0 w l)) q, λ l'' s. hit r.0 l'' (cell_grew s.grew key r.0 (made r.0 r.1 a)))

-- ---- comparisons ----

pub again_comparison : (op : ComparisonOp) (lhs rhs : List ℕ) (l : Netlist) → Sound l → Again (comparison op lhs rhs) l
unfolding comparison add_comparison
again_comparison op lhs rhs l q =
    let key = comparison_key (comparison_word op) lhs rhs in
    again_found key (add_comparison op lhs rhs) l (λ n.
    again_made key (add_comparison op lhs rhs) l (source 11 (W.count 4 l.records)) 1 q.few (λ i. omega arith) (λ ns. other_kind l (key ++ ns) (omega arith)) n refl)

module _ (op : ArithmeticOp) (lhs rhs : List ℕ) (carry : Option ℕ) (l : Netlist) (q : Sound l) (below : CarryBelow (count l) carry) (same : length rhs ≡ length lhs) where
  -- a cell that is not folded has the key of none that is
  other_cell : fold_constant_arithmetic op lhs rhs carry l ≡ none → (ns : List ℕ) → Other l (arithmetic_key (arithmetic_word op) lhs rhs carry ++ ns)
  other_cell e ns op' lhs' rhs' carry' vs same' f = go (begins key' (arithmetic_key (arithmetic_word op) lhs rhs carry ++ ns)) refl
    where
      key' : List ℕ
      key' = arithmetic_key (arithmetic_word op') lhs' rhs' carry'

      go : (t : Bool) → begins key' (arithmetic_key (arithmetic_word op) lhs rhs carry ++ ns) ≡ t → begins key' (arithmetic_key (arithmetic_word op) lhs rhs carry ++ ns) ≡ false
      go false b = b
      go true b =
          let x = sym (arithmetic_of_law lhs rhs ns same op carry (carry_low l q carry below)) ∙ ap arithmetic_of (begins_is key' (arithmetic_key (arithmetic_word op) lhs rhs carry ++ ns) b)
          ∙ arithmetic_of_law lhs' rhs' (drop (length key') (arithmetic_key (arithmetic_word op) lhs rhs carry ++ ns)) same' op' carry' (carry_low l q carry' (fold_carry op' lhs' rhs' carry' l vs f)) in
          absurd (fold_any op op' lhs' rhs' carry' l vs (ap (λ (z : N.Arithmetic). fold_constant_arithmetic op z.lhs z.rhs z.carry l) (sym x) ∙ e) f)

module _ (op : ArithmeticOp) (lhs rhs : List ℕ) (carry : Option ℕ) (l : Netlist) (q : Sound l) (bc : CarryBelow (count l) carry) (same : length rhs ≡ length lhs) where
  abbrev key : List ℕ
  key = arithmetic_key (arithmetic_word op) lhs rhs carry

  pub again_arithmetic : Again (arithmetic op lhs rhs carry) l
  unfolding arithmetic add_arithmetic
  again_arithmetic = again_found key (add_arithmetic op lhs rhs carry) l (λ n. go n (fold_constant_arithmetic op lhs rhs carry l) refl)
    where
      folded : (vs : List Bool) (l' : Netlist) → find_cell key l'.records ≡ none → fold_constant_arithmetic op lhs rhs carry l' ≡ some vs
          → arithmetic op lhs rhs carry l' ≡ each add_constant vs l'
      folded vs l' n e = rw (n, e)

      go : find_cell key l.records ≡ none → (o : Option (List Bool)) → fold_constant_arithmetic op lhs rhs carry l ≡ o → Again (arithmetic op lhs rhs carry) l
      go n (some vs) e = again_as (again_constants vs l) (folded vs l n e)
          (λ l' s. folded vs l' (s.folds op lhs rhs carry vs same e n) (fold_grew s.grew op lhs rhs carry vs e))
      go n none e = again_made key (add_arithmetic op lhs rhs carry) l (source 10 (W.count 3 l.records)) (length lhs) q.few (λ i. omega arith) (other_cell op lhs rhs carry l q bc same e) n (rw e)
