-- What is proved of specs/Comparison: `comparison` of word_cells.rs: the net that it gives stands for the comparison of the operands' words, found or made. Assumes nothing.
use Rattle.std.specs.Prelude.{◌≡◌, Bool, get_or}
use Rattle.std.proofs.Math.Path.{refl, sym, ap, subst}
use Rattle.std.proofs.Common.{◌∙◌, add-zero, arith}
use mathlib.Core.List.{List, [], ◌∷◌, ◌++◌, map}
use Rattle.std.proofs.Math.Option.{Option, none, some}
use Prim.Native.Nat.{ℕ, zero, suc, ◌+◌, ◌-◌, ◌≤◌, ◌<◌}
use Rattle.std.proofs.Math.ListN.{length}
use Rattle.spec_rules.specs.NetlistImage as N
use Rattle.spec_rules.specs.NetlistImage.{node_of, comparison_of}
use Rattle.spec_rules.specs.Step as S
use Rattle.spec_model.specs.Words as W
use Rattle.spec_model.specs.Words.{Node, source, Netlist, comparison_key}
use Rattle.spec_model.specs.Builder.{or_made, from, add_nodes, add_recorded, ComparisonOp, LessThanUnsigned, LessOrEqualUnsigned, LessThanSigned, LessOrEqualSigned, comparison_word, add_comparison}
use Rattle.spec_model.specs.WordCells.{find_cell, arithmetic, comparison}
use Rattle.net_view.specs.Formed.{formed_comparison}
use Rattle.net_view.specs.Laws.{with_record}
use Rattle.word_laws.specs.Widths.{AllBelow}
use Rattle.law_nets.specs.Meaning.{decode, node_at_of, records_with, net_value}
use Rattle.law_nets.specs.Sound.{count, comparison_record, comparison_output, width_word, ArithmeticCell, ComparisonCell, Wired, Sound, Stands, StandsAll}
use Rattle.law_nets.specs.Run.{meets_map, Limit, Built, Run}
use Rattle.law_nets.proofs.Run.{all_as, all_nil, all_cons, run_here}
use Rattle.law_nets.specs.Nodes.{arithmetic_grew, comparison_grew}
use Rattle.law_gates.specs.Nodes.{no_node}
use Rattle.law_gates.specs.Added.{with_nodes, nodes_added, Recorded, recorded}
use Rattle.law_cells.specs.Records.{relation_of, relation_word, comparison_of_law, comparison_output_law, comparison_length}
use Rattle.law_cells.specs.Cells.{comparison_stands, found_cell, count_with, with_cell, grew_cell, count_cell, node_cell, cell_more, cell_new, cells_after, only_cell, sound_cell}
use Rattle.law_cells.specs.Comparison.{Compares, answer, from_one}

compare_op : (op : ComparisonOp) (a b : List Bool) → S.compare (relation_of op) a b ≡ answer op a b
compare_op LessThanUnsigned a b = refl
compare_op LessOrEqualUnsigned a b = refl
compare_op LessThanSigned a b = refl
compare_op LessOrEqualSigned a b = refl

module _ (lhs rhs : List ℕ) (l : Netlist) (q : Sound l) (bl : AllBelow (count l) lhs) (br : AllBelow (count l) rhs) (same : length rhs ≡ length lhs) (op : ComparisonOp) where
  abbrev key : List ℕ
  key = comparison_key (comparison_word op) lhs rhs

  at_comparison : (h : Netlist) → Sound h → (j : ℕ) → j < length (records_with 4 h.records) → (out : ℕ) → comparison_record h j ≡ key ++ (out ∷ [])
      → StandsAll h (out ∷ []) (Compares op lhs rhs)
  at_comparison h qh j b out e =
      let x : comparison_of (comparison_record h j) ≡ record { relation = relation_of op; lhs = lhs; rhs = rhs } = ap comparison_of e ∙ comparison_of_law lhs rhs (out ∷ []) same op in
      let o : comparison_output (comparison_record h j) ≡ out = ap comparison_output e ∙ comparison_output_law lhs rhs (out ∷ []) same op in
      let v = subst (λ (z : ℕ). Stands h z (λ g s c. S.comparison (net_value g s c) (comparison_of (comparison_record h j)))) o (comparison_stands h qh j b) in
      all_as (all_cons v all_nil) (λ g y s c. rw x (ap (λ (t : Bool). t ∷ []) (compare_op op (map (net_value g s c) lhs) (map (net_value g s c) rhs))))

  nodes : List Node
  nodes = map (source 11 (W.count 4 l.records)) (from 0 1)

  number : W.count 4 l.records ≡ length (records_with 4 l.records)
  number = count_with 4 l.records q.formed

  abbrev record' : List ℕ
  record' = key ++ (count l ∷ [])

  abbrev after : Netlist
  after = with_cell nodes record' l

  node_is : decode (get_or nodes 0 no_node) ≡ N.ComparisonOutput (length (records_with 4 l.records))
  unfolding nodes from decode node_of
  node_is = rw number

  length_nodes : length nodes ≡ 1
  unfolding nodes from
  length_nodes = refl

  the_node : node_at_of after (count l) ≡ N.ComparisonOutput (length (records_with 4 l.records))
  the_node = ap (node_at_of after) (sym (add-zero (count l))) ∙ node_cell nodes record' l 0 (rw length_nodes (omega arith)) ∙ node_is

  the_record : comparison_record after (length (records_with 4 l.records)) ≡ record'
  the_record = cell_new nodes record' l 4 refl

  output : comparison_output record' ≡ count l
  output = comparison_output_law lhs rhs (count l ∷ []) same op

  the_cell : ComparisonCell after (length (records_with 4 l.records)) record'
  the_cell = record {
    operation = relation_word op;
    width = comparison_length lhs rhs (count l ∷ []) same op ∙ omega arith;
    there = rw (output, count_cell nodes record' l, length_nodes) (omega arith);
    output = ap (node_at_of after) output ∙ the_node;
  }

  new_node : (i : ℕ) → i < length nodes → Wired after (count l + i) (decode (get_or nodes i no_node))
  new_node (suc i) h = absurd (omega (arith, length_nodes))
  new_node zero h = rw (node_is, add-zero) (record {
    cell = rw (cell_more nodes record' l 4 refl) (omega arith);
    listed = rw the_record output;
    lhs = rw (the_record, comparison_of_law lhs rhs (count l ∷ []) same op) bl;
    rhs = rw (the_record, comparison_of_law lhs rhs (count l ∷ []) same op) br;
  })

  sound_after : count l + length nodes ≤ l.max_nets → W.used l.records + length record' ≤ l.max_list → Sound after
  sound_after room list = sound_cell nodes record' l q room list (formed_comparison (comparison_word op) lhs rhs (count l) same) (omega arith) new_node
      (cells_after nodes record' l 3 (ArithmeticCell after) (λ j b. arithmetic_grew (grew_cell nodes record' l) j _ (q.arithmetic j b)) (λ e. absurd (omega arith)))
      (cells_after nodes record' l 4 (ComparisonCell after) (λ j b. comparison_grew (grew_cell nodes record' l) j _ (q.comparison j b)) (λ e. the_cell))

  pub add_comparison_run : Run l (λ zs l'. StandsAll l' zs (Compares op lhs rhs)) (add_comparison op lhs rhs l)
  unfolding add_comparison nodes
  add_comparison_run = record {
    run = meets_map Limit Limit (λ (r : List ℕ × Netlist). Recorded key nodes l r.0 r.1) (Built l (λ zs l'. StandsAll l' zs (Compares op lhs rhs)))
        (add_recorded key (add_nodes (source 11 (W.count 4 l.records)) 0 1 l))
        (recorded key nodes l (add_nodes (source 11 (W.count 4 l.records)) 0 1 l) (nodes_added (source 11 (W.count 4 l.records)) 0 1 l q.few))
        (λ n x y h. h) (λ r a. go r.0 r.1 a);
  }
    where
      go : (ns : List ℕ) (l' : Netlist) → Recorded key nodes l ns l' → Built l (λ zs l'. StandsAll l' zs (Compares op lhs rhs)) (ns, l')
      go ns l' a =
          let en : ns ≡ count l ∷ [] = a.nets ∙ one (length nodes) length_nodes in
          let e : l' ≡ after = a.then ∙ ap (λ (z : List ℕ). with_record (key ++ z) (with_nodes nodes l)) en in
          let s = sound_after a.room (subst (λ (z : List ℕ). W.used l.records + length (key ++ z) ≤ l.max_list) en a.list) in
          subst (Built l (λ zs l'. StandsAll l' zs (Compares op lhs rhs))) {x = (count l ∷ [], after)} {y = (ns, l')} (λ i. (sym en i, sym e i)) (record {
            later = record { grew = grew_cell nodes record' l; sound = s };
            cells = only_cell nodes record' l (omega arith);
            post = at_comparison after s (length (records_with 4 l.records)) (rw (cell_more nodes record' l 4 refl) (omega arith)) (count l) the_record;
          })
        where
          one : (w : ℕ) → w ≡ 1 → from (count l) w ≡ count l ∷ []
          one w e = ap (from (count l)) e ∙ from_one (count l)

  found_comparison : (outs : List ℕ) (j : ℕ) → j < length (records_with 4 l.records) → comparison_record l j ≡ key ++ outs → StandsAll l outs (Compares op lhs rhs)
  found_comparison outs j b e =
      let k = q.comparison j b in
      let w : width_word (comparison_record l j) ≡ length lhs = ap width_word e in
      go outs e (omega (arith, k.width, ap length e, comparison_length lhs rhs outs same op))
    where
      go : (outs : List ℕ) → comparison_record l j ≡ key ++ outs → length outs ≡ 1 → StandsAll l outs (Compares op lhs rhs)
      go [] e h = absurd (omega arith)
      go (o ∷ []) e h = at_comparison l q j b o e
      go (o ∷ p ∷ os) e h = absurd (omega arith)

  pub comparison_run : Run l (λ zs l'. StandsAll l' zs (Compares op lhs rhs)) (comparison op lhs rhs l)
  unfolding comparison
  comparison_run = go (find_cell key l.records) refl
    where
      go : (o : Option (List ℕ)) → find_cell key l.records ≡ o → Run l (λ zs l'. StandsAll l' zs (Compares op lhs rhs)) (or_made o l (add_comparison op lhs rhs l))
      go (some outs) e =
          let f = found_cell 4 (comparison_word op ∷ length lhs ∷ (lhs ++ rhs)) l.records outs e in
          run_here q (found_comparison outs f.at f.inside f.is)
      go none e = add_comparison_run
