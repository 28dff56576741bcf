-- A cell that is in a sound netlist: its outputs stand for its operation. A cell that is found, and a cell that is made. Assumes nothing.
use Rattle.std.specs.Prelude.{◌≡◌, refl, Bool, true, false, List, [], ◌∷◌, ◌++◌, map, ℕ, suc, ◌+◌, ◌*◌, ◌-◌, ◌≤◌, ◌<◌, eqb, length, get_or, drop}
use Rattle.std.proofs.Common.{sym, ap, subst, ◌∙◌, suc-le-suc, le_trans, arith, length-append, length-drop, ext_get_or, eqb-true}
use Rattle.std.proofs.Math.Option.{some}
use Rattle.std.proofs.Math.Decide.{dec_lt}
use Rattle.std.proofs.lemmas.List.{length-map}
use Rattle.std.proofs.Math.Seq.{get_or-append_seam}
use Rattle.spec_tests.specs.Rules.{◌≡?◌, pick, only}
use Rattle.spec_tests.specs.Laws.{eq_yes}
use Rattle.spec_rtl.specs.Word.{length_bits}
use Rattle.spec_rules.specs.NetlistImage as N
use Rattle.spec_rules.specs.NetlistImage.{arithmetic_of, comparison_of}
use Rattle.spec_rules.specs.Step.{Setting, Contents, node_value, arithmetic, comparison}
use Rattle.spec_model.specs.Words as W
use Rattle.spec_model.specs.Words.{absent, Node, Netlist, used}
use Rattle.spec_model.specs.WordCells.{begins, find_cell}
use Rattle.net_view.specs.View.{Formed, AllFormed}
use Rattle.net_view.specs.Records.{used_snoc, formed_snoc}
use Rattle.net_view.specs.Laws.{with_record}
use Rattle.word_laws.specs.Widths.{AllBelow}
use Rattle.law_nets.specs.Meaning.{decode, node_at_of, records_with, meaning_of, net_value}
use Rattle.law_nets.specs.Sound.{count, PortNets, width_word, arithmetic_record, comparison_record, arithmetic_outputs, comparison_output, ArithmeticCell, ComparisonCell, Wired, Sound, Grew, Later, Cells, Stands, StandsAll}
use Rattle.law_nets.specs.Run.{grew_trans}
use Rattle.law_nets.specs.Nodes.{at_grew, count_grew, with_old, with_more, with_new, with_same, with_after, get_or_map_in}
use Rattle.law_nets.proofs.Nodes.{wired_grew, later_net, cell_is, compare_is}
use Rattle.law_gates.specs.Nodes.{no_node}
use Rattle.law_gates.specs.Added.{with_nodes, grew_nodes, count_nodes, nodes_limits, node_added, grew_record}

-- ---- what is in a sound netlist ----

all_at : (n : ℕ) (xs : List ℕ) → ((i : ℕ) → i < length xs → get_or xs i absent < n) → AllBelow n xs
all_at n [] h = tt
all_at n (x ∷ xs) h = (h 0 (omega arith), all_at n xs (λ i b. h (suc i) (suc-le-suc b)))

-- the outputs of arithmetic cell j
pub arithmetic_stands : (l : Netlist) → Sound l → (j : ℕ) → j < length (records_with 3 l.records) → length (arithmetic_of (arithmetic_record l j)).lhs ≡ width_word (arithmetic_record l j)
    → StandsAll l (arithmetic_outputs (arithmetic_record l j)) (λ h s c. arithmetic (net_value h s c) (arithmetic_of (arithmetic_record l j)))
arithmetic_stands l q j b e = record {
  there = all_at (count l) os (λ i h. a.there i (rw wide at h));
  are = λ h y s c. ext_get_or false (map (net_value h s c) os) (arithmetic (net_value h s c) x)
      (length-map os (net_value h s c) ∙ wide ∙ sym (length_bits (length x.lhs) _ ∙ e))
      (λ i k. at h y s c i (rw (length-map os (net_value h s c)) at k));
}
  where
    r : List ℕ
    r = arithmetic_record l j

    os : List ℕ
    os = arithmetic_outputs r

    x : N.Arithmetic
    x = arithmetic_of r

    a : ArithmeticCell l j r
    a = q.arithmetic j b

    wide : length os ≡ width_word r
    wide = length-drop (4 + 2 * width_word r) r ∙ omega (arith, a.width)

    at : (h : Netlist) → Later l h → (s : Setting) (c : Contents) (i : ℕ) → i < length os → get_or (map (net_value h s c) os) i false ≡ get_or (arithmetic (net_value h s c) x) i false
    at h y s c i k =
        let k' : i < width_word r = rw wide at k in
        get_or_map_in (net_value h s c) os i absent false k
        ∙ later_net y (get_or os i absent) (a.there i k') s c
        ∙ ap (node_value (meaning_of h) s c (net_value h s c)) (a.outputs i k')
        ∙ ap (λ (z : N.Arithmetic). get_or (arithmetic (net_value h s c) z) i false)
        (cell_is h j _ (le_trans b (with_more y.grew 3)) ∙ ap arithmetic_of (with_old y.grew 3 j b))

-- the output of comparison cell j
pub comparison_stands : (l : Netlist) → Sound l → (j : ℕ) → j < length (records_with 4 l.records)
    → Stands l (comparison_output (comparison_record l j)) (λ h s c. comparison (net_value h s c) (comparison_of (comparison_record l j)))
comparison_stands l q j b =
    let a = q.comparison j b in
    record {
      there = a.there;
      is = λ h y s c. later_net y (comparison_output (comparison_record l j)) a.there s c
          ∙ ap (node_value (meaning_of h) s c (net_value h s c)) a.output
          ∙ ap (comparison (net_value h s c)) (compare_is h j _ (le_trans b (with_more y.grew 4)) ∙ ap comparison_of (with_old y.grew 4 j b));
    }

-- ---- a cell that is found ----

pub begins_is : (key r : List ℕ) → begins key r ≡ true → r ≡ key ++ drop (length key) r
unfolding begins
begins_is [] r e = refl
begins_is (x ∷ key) [] e = let z : ◌≡◌ {A = ℕ} 0 1 = cc in absurd (omega arith)
begins_is (x ∷ key) (y ∷ r) e = go (eqb x y) refl (begins_is key r) e
  where
    go : (t : Bool) → eqb x y ≡ t → (begins key r ≡ true → r ≡ key ++ drop (length key) r) → elim t [ true ↦ begins key r | false ↦ false ] ≡ true
        → y ∷ r ≡ x ∷ (key ++ drop (length key) r)
    go true p ih e = λ i. sym (eqb-true x y p) i ∷ ih e i
    go false p ih e = let z : ◌≡◌ {A = ℕ} 0 1 = cc in absurd (omega arith)

-- the record of cell `at` among those of kind t is key and outs
pub record FoundCell (t : ℕ) (key : List ℕ) (rs : List (List ℕ)) (outs : List ℕ) : Type 0 where
  pub at : ℕ
  pub inside : at < length (records_with t rs)
  pub is : get_or (records_with t rs) at [] ≡ (t ∷ key) ++ outs

found_next : (t : ℕ) (key r : List ℕ) (rs : List (List ℕ)) (outs : List ℕ) → FoundCell t key rs outs → FoundCell t key (r ∷ rs) outs
unfolding records_with only pick
found_next t key r rs outs f = go (get_or r 0 0 ≡? t) refl
  where
    go : (b : Bool) → (get_or r 0 0 ≡? t) ≡ b → FoundCell t key (r ∷ rs) outs
    go true e = record { at = suc f.at; inside = rw e (suc-le-suc f.inside); is = rw e f.is }
    go false e = record { at = f.at; inside = rw e f.inside; is = rw e f.is }

found_here : (t : ℕ) (key r : List ℕ) (rs : List (List ℕ)) (outs : List ℕ) → r ≡ (t ∷ key) ++ outs → FoundCell t key (r ∷ rs) outs
unfolding records_with only pick
found_here t key r rs outs e =
    let h : (get_or r 0 0 ≡? t) ≡ true = eq_yes (get_or r 0 0) t (ap (λ (x : List ℕ). get_or x 0 0) e) in
    record { at = 0; inside = rw h (omega arith); is = rw h e }

pub found_cell : (t : ℕ) (key : List ℕ) (rs : List (List ℕ)) (outs : List ℕ) → find_cell (t ∷ key) rs ≡ some outs → FoundCell t key rs outs
unfolding find_cell
found_cell t key [] outs e = let z : ◌≡◌ {A = ℕ} 0 1 = cc in absurd (omega arith)
found_cell t key (r ∷ rs) outs e = go (begins (t ∷ key) r) refl (found_cell t key rs outs) e
  where
    go : (b : Bool) → begins (t ∷ key) r ≡ b → (find_cell (t ∷ key) rs ≡ some outs → FoundCell t key rs outs)
        → elim b [ true ↦ some (drop (length (t ∷ key)) r) | false ↦ find_cell (t ∷ key) rs ] ≡ some outs → FoundCell t key (r ∷ rs) outs
    go true p ih e =
        let o : drop (length (t ∷ key)) r ≡ outs = cc in
        found_here t key r rs outs (begins_is (t ∷ key) r p ∙ ap (λ (x : List ℕ). (t ∷ key) ++ x) o)
    go false p ih e = found_next t key r rs outs (ih e)

-- ---- a cell that is made ----

-- cells are numbered as they are made
pub count_with : (t : ℕ) (rs : List (List ℕ)) → AllFormed rs → W.count t rs ≡ length (records_with t rs)
unfolding W.count records_with only pick ◌≡?◌
count_with t [] f = refl
count_with t ([] ∷ rs) f = absurd (omega (arith, f.0.some))
count_with t ((x ∷ r) ∷ rs) f = go (eqb x t) refl (count_with t rs f.1)
  where
    go : (b : Bool) → eqb x t ≡ b → W.count t rs ≡ length (only (λ (r : List ℕ). get_or r 0 0 ≡? t) rs)
        → W.bit_word (eqb x t) + W.count t rs ≡ length (pick (eqb x t) ((x ∷ r) ∷ only (λ (r : List ℕ). get_or r 0 0 ≡? t) rs) (only (λ (r : List ℕ). get_or r 0 0 ≡? t) rs))
    go true e ih = rw e (omega (arith, ih))
    go false e ih = rw e (omega (arith, ih))

module _ (xs : List Node) (r : List ℕ) (l : Netlist) where
  abbrev pub with_cell : Netlist
  with_cell = with_record r (with_nodes xs l)

  pub grew_cell : Grew l with_cell
  grew_cell = grew_trans (grew_nodes xs l) (grew_record r (with_nodes xs l))

  pub count_cell : count with_cell ≡ count l + length xs
  count_cell = count_nodes xs l

  pub node_cell : (i : ℕ) → i < length xs → node_at_of with_cell (count l + i) ≡ decode (get_or xs i no_node)
  node_cell i h = at_grew (grew_record r (with_nodes xs l)) (count l + i) (rw (count_nodes xs l) (omega arith)) ∙ ap decode (node_added xs l i h)

  same_records : (with_nodes xs l).records ≡ l.records
  same_records = (nodes_limits xs l).2

  -- its record is the last of its kind
  pub cell_more : (t : ℕ) → get_or r 0 0 ≡ t → length (records_with t with_cell.records) ≡ suc (length (records_with t l.records))
  cell_more t e =
      ap length (with_new t (with_nodes xs l).records r e) ∙ rw same_records (length-append (records_with t l.records) (r ∷ []) ∙ omega arith)

  pub cell_new : (t : ℕ) → get_or r 0 0 ≡ t → get_or (records_with t with_cell.records) (length (records_with t l.records)) [] ≡ r
  cell_new t e =
      ap (λ (z : List (List ℕ)). get_or z (length (records_with t l.records)) []) (with_new t (with_nodes xs l).records r e)
      ∙ rw same_records (get_or-append_seam (records_with t l.records) r [] [])

  pub cells_after : (t : ℕ) (P : ℕ → List ℕ → Type 0) → ((j : ℕ) → j < length (records_with t l.records) → P j (get_or (records_with t l.records) j []))
      → (get_or r 0 0 ≡ t → P (length (records_with t l.records)) r)
      → (j : ℕ) → j < length (records_with t with_cell.records) → P j (get_or (records_with t with_cell.records) j [])
  cells_after t P old new = rw same_records (with_after t l.records r P old new)

  pub only_cell : 2 < get_or r 0 0 → Cells l with_cell
  only_cell h = record { cells = λ t b. with_same t (with_nodes xs l).records r (omega arith) ∙ ap (records_with t) same_records }

  -- the netlist with it is sound, if its nodes and its record are
  pub sound_cell : Sound l → count l + length xs ≤ l.max_nets → used l.records + length r ≤ l.max_list → Formed r → (get_or r 0 0 ≡ 0 → ⊥)
      → ((i : ℕ) → i < length xs → Wired with_cell (count l + i) (decode (get_or xs i no_node)))
      → ((j : ℕ) → j < length (records_with 3 with_cell.records) → ArithmeticCell with_cell j (arithmetic_record with_cell j))
      → ((j : ℕ) → j < length (records_with 4 with_cell.records) → ComparisonCell with_cell j (comparison_record with_cell j))
      → Sound with_cell
  sound_cell q room list f z new a b =
      let m = nodes_limits xs l in
      record {
        few = rw (count_cell, m.0) room;
        small = rw m.0 q.small;
        short = rw (used_snoc, m.1, m.2) list;
        formed = formed_snoc (with_nodes xs l).records r (rw m.2 q.formed) f;
        wired = λ k h. wired k (rw count_cell at h) (dec_lt k (count l));
        ports = cells_after 0 (λ j r. PortNets with_cell r) (λ j o i h. le_trans (q.ports j o i h) (count_grew grew_cell)) (λ e. absurd (z e));
        arithmetic = a;
        comparison = b;
      }
    where
      wired : (k : ℕ) → k < count l + length xs → Dec (k < count l) → Wired with_cell k (node_at_of with_cell k)
      wired k h (yes o) = rw (at_grew grew_cell k o) (wired_grew grew_cell k (omega arith) (node_at_of l k) (q.wired k o))
      wired k h (no o) =
          let e : count l + (k - count l) ≡ k = omega arith in
          subst (λ (n : ℕ). Wired with_cell n (node_at_of with_cell n)) e
          (rw (node_cell (k - count l) (omega arith)) (new (k - count l) (omega arith)))
